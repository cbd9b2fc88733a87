-- The bytes of each kind of line, number by number.
use Rattle.std.proofs.Common.{◌≡◌, ℕ, ◌+◌, List, [], ◌∷◌, ◌++◌, map, length, ℤ, pos, codes, decimal, sym, refl, ap, ◌∙◌, append_assoc, arith, length-append}
use lib.ListN.{length-map}
use Rattle.std.specs.Fmt.{signed_decimal}
use Rattle.std.proofs.lemmas.List.{append-nil}
use Rattle.book.specs.Rules.{Rule}
use Rattle.book.specs.Encoding.{head_type, encode_rule}
use Rattle.aspif.specs.Texts.{spaced}
use Rattle.reader.specs.Statements.{rule, output, assumption, skipped}
use Rattle.reader.specs.Program.{counted, before_name, line_of}
use Rattle.reader.proofs.WrittenRows.{spaced_more}

spaced_both : (xs zs : List ℤ) (ys : List ℕ) → spaced (xs ++ zs) ++ ys ≡ spaced xs ++ (spaced zs ++ ys)
unfolding spaced
spaced_both [] zs ys = refl
spaced_both (x ∷ xs) zs ys = spaced_more x (xs ++ zs) ys ∙ ap (λ t. 32 ∷ (signed_decimal x ++ t)) (spaced_both xs zs ys) ∙ sym (spaced_more x xs (spaced zs ++ ys))

-- numbers after their count, to the end of the line
abbrev pub counted_bytes : List ℤ → List ℕ → List ℕ
counted_bytes zs rest = decimal (length zs) ++ (spaced zs ++ (10 ∷ rest))

counted_bytes_lem : (zs : List ℤ) (rest : List ℕ) → (counted zs ++ codes "\n") ++ rest ≡ 32 ∷ counted_bytes zs rest
counted_bytes_lem zs rest = append_assoc (counted zs) (codes "\n") rest ∙ spaced_more (pos (length zs)) zs (10 ∷ rest)

-- a rule after its kind
abbrev pub rule_bytes : Rule → List ℕ → List ℕ
rule_bytes ρ rest = signed_decimal (head_type ρ.kind) ++ (32 ∷ (decimal (length (map pos ρ.head)) ++ (spaced (map pos ρ.head) ++ (32 ∷ (decimal 0 ++ (32 ∷ counted_bytes ρ.body rest))))))

pub rule_bytes_lem : (ρ : Rule) (rest : List ℕ) → line_of (rule ρ) ++ rest ≡ 49 ∷ (32 ∷ rule_bytes ρ rest)
rule_bytes_lem ρ rest =
    let heads = map pos ρ.head in
    let type = head_type ρ.kind in
    let body = pos 0 ∷ pos (length ρ.body) ∷ ρ.body in
    let end = 10 ∷ rest in
    let n : length ρ.head ≡ length heads = sym (length-map ρ.head pos) in
    ap (49 ∷◌)
    (append_assoc (spaced (encode_rule ρ)) (codes "\n") rest
    ∙ spaced_more type (pos (length ρ.head) ∷ (heads ++ body)) end
    ∙ ap (λ t. 32 ∷ (signed_decimal type ++ t))
    (spaced_more (pos (length ρ.head)) (heads ++ body) end
    ∙ ap (λ k. 32 ∷ (decimal k ++ (spaced (heads ++ body) ++ end))) n
    ∙ ap (λ t. 32 ∷ (decimal (length heads) ++ t))
    (spaced_both heads body end
    ∙ ap (spaced heads ++◌) (spaced_more (pos 0) (pos (length ρ.body) ∷ ρ.body) end ∙ ap (λ t. 32 ∷ (decimal 0 ++ t)) (spaced_more (pos (length ρ.body)) ρ.body end)))))

-- an output after its kind
abbrev pub output_bytes : List ℕ → List ℤ → List ℕ → List ℕ
output_bytes name zs rest = decimal (length name) ++ (32 ∷ (name ++ (32 ∷ counted_bytes zs rest)))

before_name_lem : (name rest : List ℕ) → before_name name ++ rest ≡ 52 ∷ (32 ∷ (decimal (length name) ++ (32 ∷ rest)))
unfolding spaced
before_name_lem name rest = ap (52 ∷◌) (append_assoc (spaced (pos (length name) ∷ [])) (codes " ") rest ∙ spaced_more (pos (length name)) [] (32 ∷ rest))

pub output_bytes_lem : (place : ℕ) (name : List ℕ) (zs : List ℤ) (rest : List ℕ) → line_of (output place name zs) ++ rest ≡ 52 ∷ (32 ∷ output_bytes name zs rest)
output_bytes_lem place name zs rest =
    append_assoc (before_name name) (name ++ (counted zs ++ codes "\n")) rest
    ∙ before_name_lem name ((name ++ (counted zs ++ codes "\n")) ++ rest)
    ∙ ap (λ t. 52 ∷ (32 ∷ (decimal (length name) ++ (32 ∷ t)))) (append_assoc name (counted zs ++ codes "\n") rest ∙ ap (name ++◌) (counted_bytes_lem zs rest))

pub assumption_bytes : (zs : List ℤ) (rest : List ℕ) → line_of (assumption zs) ++ rest ≡ 54 ∷ (32 ∷ counted_bytes zs rest)
assumption_bytes zs rest = ap (54 ∷◌) (counted_bytes_lem zs rest)

pub skipped_bytes : (kind : ℕ) (bytes rest : List ℕ) → line_of (skipped kind bytes) ++ rest ≡ decimal kind ++ (bytes ++ (10 ∷ rest))
skipped_bytes kind bytes rest = append_assoc (decimal kind) (bytes ++ codes "\n") rest ∙ ap (decimal kind ++◌) (append_assoc bytes (codes "\n") rest)

-- How long the lines are.

whole : (xs ys : List ℕ) → xs ++ [] ≡ ys → length xs ≡ length ys
whole xs ys e = ap length (sym (append-nil xs) ∙ e)

counted_size : (zs : List ℤ) (rest : List ℕ) → length (counted_bytes zs rest) ≡ length (decimal (length zs)) + 1 + length (spaced zs) + length rest
counted_size zs rest = omega (arith, length-append (decimal (length zs)) (spaced zs ++ (10 ∷ rest)), length-append (spaced zs) (10 ∷ rest))

pub rule_size : (ρ : Rule) → length (line_of (rule ρ)) ≡ 2 + (length (signed_decimal (head_type ρ.kind)) + 1 + (length (decimal (length (map pos ρ.head))) + 1 + length (spaced (map pos ρ.head))) + (length (decimal 0) + 1) + (length (decimal (length ρ.body)) + 1 + length (spaced ρ.body)))
rule_size ρ =
    let heads = map pos ρ.head in
    let body = counted_bytes ρ.body [] in
    omega (arith, whole (line_of (rule ρ)) _ (rule_bytes_lem ρ []), counted_size ρ.body [], length-append (signed_decimal (head_type ρ.kind)) (32 ∷ (decimal (length heads) ++ (spaced heads ++ (32 ∷ (decimal 0 ++ (32 ∷ body)))))), length-append (decimal (length heads)) (spaced heads ++ (32 ∷ (decimal 0 ++ (32 ∷ body)))), length-append (spaced heads) (32 ∷ (decimal 0 ++ (32 ∷ body))), length-append (decimal 0) (32 ∷ body))

pub before_name_size : (name : List ℕ) → length (before_name name) ≡ 2 + (length (decimal (length name)) + 1)
before_name_size name = omega (arith, whole (before_name name) _ (before_name_lem name []), length-append (decimal (length name)) (32 ∷ []))

pub output_size : (place : ℕ) (name : List ℕ) (zs : List ℤ) → length (line_of (output place name zs)) ≡ 2 + (length (decimal (length name)) + 1 + length name + 1 + (length (decimal (length zs)) + 1 + length (spaced zs)))
output_size place name zs = omega (arith, whole (line_of (output place name zs)) _ (output_bytes_lem place name zs []), counted_size zs [], length-append (decimal (length name)) (32 ∷ (name ++ (32 ∷ counted_bytes zs []))), length-append name (32 ∷ counted_bytes zs []))

pub assumption_size : (zs : List ℤ) → length (line_of (assumption zs)) ≡ 2 + (length (decimal (length zs)) + 1 + length (spaced zs))
assumption_size zs = omega (arith, whole (line_of (assumption zs)) _ (assumption_bytes zs []), counted_size zs [])

pub skipped_size : (kind : ℕ) (bytes : List ℕ) → length (line_of (skipped kind bytes)) ≡ length (decimal kind) + (length bytes + 1)
skipped_size kind bytes = omega (arith, length-append (decimal kind) (bytes ++ codes "\n"), length-append bytes (codes "\n"))
