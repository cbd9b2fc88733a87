-- The integers of rules, and the text that they make.
use Rattle.std.proofs.Common.{◌≡◌, ℕ, zero, suc, ◌+◌, ◌*◌, ◌<◌, ◌≤◌, List, [], ◌∷◌, ◌++◌, map, length, length-append, append_assoc, drop, ℤ, pos, Some, None, Option, codes, sym, refl, ap, ◌∙◌, add-zero, add-one, zero-add, arith}
use lib.ListN.{length-map}
use Rattle.std.specs.Fmt.{signed_decimal}
use Rattle.std.specs.List.{AllByRecursion as Each, slice_get, sum_by, range_with_len}
use Rattle.std.specs.Option.{option_map}
use Rattle.std.proofs.lemmas.List.{at_drop_all}
use Rattle.std.proofs.lemmas.Option.{slice_get-map}
use Rattle.std.proofs.lemmas.List.Sums.{sum_by-cons}
use Rattle.base.specs.Sinks.{after_space}
use Rattle.base.proofs.Places.{pieces_more}
use Rattle.book.specs.Rules.{Rule, LawfulRule, kind_of, head_size, body_size, head_atom, body_literal}
use Rattle.book.specs.declared.kind.Kind.{Kind}
use Rattle.book.specs.Encoding.{head_type, encode_rule, encode}
use Rattle.book.proofs.Bounds.{limit_255}
use Rattle.aspif.specs.Texts.{spaced, rule_lines}
use Rattle.aspif.specs.Integers.{encode_in, heads_in, literals_in, head_in, body_in, line_in}

-- the sizes of the rules at the places, one after another
abbrev pub size_at : List Rule → ℕ → ℕ
size_at ρs i = length (encode_in (slice_get ρs i))

sizes_from : (size : ℕ → ℕ) (k : ℕ) (ρs : List Rule) → ((i : ℕ) → size (k + i) ≡ size_at ρs i) → sum_by size (range_with_len k (length ρs)) ≡ length (encode ρs)
sizes_from size k [] h = refl
sizes_from size k (ρ ∷ ρs) h =
    let here : size k ≡ length (encode_rule ρ) = rw add-zero at (h 0) in
    let rest = λ (i : ℕ). let next : k + 1 + i ≡ k + suc i = omega arith in ap size next ∙ h (suc i) in
    sum_by-cons size k (range_with_len (k + 1) (length ρs)) ∙ ap (◌+ sum_by size (range_with_len (k + 1) (length ρs))) here ∙ ap (length (encode_rule ρ) +◌) (sizes_from size (k + 1) ρs rest) ∙ sym (length-append (encode_rule ρ) (encode ρs))

pub all_sizes : (ρs : List Rule) → sum_by (size_at ρs) (range_with_len 0 (length ρs)) ≡ length (encode ρs)
all_sizes ρs = sizes_from (size_at ρs) 0 ρs (λ i. simp zero-add)

-- rules within the limits have at most 514 integers each
pub encode_short : (n : ℕ) (ρs : List Rule) → Each (LawfulRule n) ρs → length (encode ρs) ≤ 514 * length ρs
encode_short n [] h = omega arith
encode_short n (ρ ∷ ρs) h = omega (arith, length-append (encode_rule ρ) (encode ρs), length-append (map pos ρ.head) (body_in (Some ρ)), length-map ρ.head pos, h.0.short_head, limit_255 ρ.kind, h.0.short_body, encode_short n ρs h.1)

-- the parts of a rule, as a book tells them
pub head_parts : (o : Option Rule) (k : Kind) (n : ℕ) → Some k ≡ kind_of o → Some n ≡ head_size o → (length (heads_in o) ≡ n) × (head_in o ≡ head_type k ∷ pos n ∷ heads_in o)
head_parts None k n e f = absurd cc
head_parts (Some ρ) k n e f =
    let kind : ρ.kind ≡ k = cc in
    let size : length ρ.head ≡ n = cc in
    (length-map ρ.head pos ∙ size, ap (λ t. head_type t ∷ pos (length ρ.head) ∷ map pos ρ.head) kind ∙ ap (λ m. head_type k ∷ pos m ∷ map pos ρ.head) size)

pub body_parts : (o : Option Rule) (n : ℕ) → Some n ≡ body_size o → (length (literals_in o) ≡ n) × (body_in o ≡ pos 0 ∷ pos n ∷ literals_in o)
body_parts None n f = absurd cc
body_parts (Some ρ) n f = let size : length ρ.body ≡ n = cc in (size, ap (λ m. pos 0 ∷ pos m ∷ ρ.body) size)

pub head_there : (o : Option Rule) (at : ℕ) → option_map pos (head_atom o at) ≡ slice_get (heads_in o) at
head_there None at = refl
head_there (Some ρ) at = sym (slice_get-map pos ρ.head at)

pub literal_there : (o : Option Rule) (at : ℕ) → body_literal o at ≡ slice_get (literals_in o) at
literal_there None at = refl
literal_there (Some ρ) at = refl

pub no_head : (o : Option Rule) → None ≡ head_size o → head_in o ≡ []
no_head None e = refl
no_head (Some ρ) e = absurd cc

pub no_kind : (o : Option Rule) → None ≡ kind_of o → head_in o ≡ []
no_kind None e = refl
no_kind (Some ρ) e = absurd cc

pub no_body : (o : Option Rule) → None ≡ body_size o → body_in o ≡ []
no_body None e = refl
no_body (Some ρ) e = absurd cc

-- A text as it is made: number by number, and line by line.

pub spaced_append : (xs ys : List ℤ) → spaced (xs ++ ys) ≡ spaced xs ++ spaced ys
unfolding spaced
spaced_append [] ys = refl
spaced_append (x ∷ xs) ys =
    ap (λ l. codes " " ++ (signed_decimal x ++ l)) (spaced_append xs ys) ∙ ap (codes " " ++◌) (sym (append_assoc (signed_decimal x) (spaced xs) (spaced ys))) ∙ sym (append_assoc (codes " ") (signed_decimal x ++ spaced xs) (spaced ys))

pub spaced_cons : (z : ℤ) (zs : List ℤ) → spaced (z ∷ zs) ≡ after_space z ++ spaced zs
unfolding spaced
spaced_cons z zs = ap (codes " " ++◌) refl ∙ sym (append_assoc (codes " ") (signed_decimal z) (spaced zs))

spaced_parts : (o : Option Rule) → spaced (encode_in o) ≡ spaced (head_in o) ++ spaced (body_in o)
spaced_parts None = spaced_append [] []
spaced_parts (Some ρ) = spaced_append (head_in (Some ρ)) (body_in (Some ρ))

pub line_parts : (o : Option Rule) → line_in o ≡ codes "1" ++ (spaced (head_in o) ++ (spaced (body_in o) ++ codes "\n"))
line_parts o = ap (λ l. codes "1" ++ (l ++ codes "\n")) (spaced_parts o) ∙ ap (codes "1" ++◌) (append_assoc (spaced (head_in o)) (spaced (body_in o)) (codes "\n"))

pub spaced_all : (zs : List ℤ) (i : ℕ) → length zs ≤ i → spaced (drop i zs) ≡ []
unfolding spaced
spaced_all zs i h = at_drop_all spaced zs i h

pub spaced_more : (zs : List ℤ) (i : ℕ) (z : ℤ) → Some z ≡ slice_get zs i → spaced (drop i zs) ≡ after_space z ++ spaced (drop (i + 1) zs)
spaced_more [] i z e = cc
spaced_more (y ∷ zs) zero z e = let same : y ≡ z = cc in ap (λ x. spaced (x ∷ zs)) same ∙ spaced_cons z zs
spaced_more (y ∷ zs) (suc i) z e = spaced_more zs i z e ∙ simp add-one

-- a place without an element lies past the end
pub none_past : (zs : List ℤ) (i : ℕ) → None ≡ slice_get zs i → length zs ≤ i
none_past [] i e = omega arith
none_past (y ∷ zs) zero e = absurd cc
none_past (y ∷ zs) (suc i) e = omega (arith, none_past zs i e)

pub lines_more : (ρs : List Rule) (i : ℕ) → i < length ρs → rule_lines (drop i ρs) ≡ line_in (slice_get ρs i) ++ rule_lines (drop (i + 1) ρs)
unfolding rule_lines
lines_more = pieces_more rule_lines line_in (λ ρ ρs. refl)

pub lines_all : (ρs : List Rule) (i : ℕ) → length ρs ≤ i → rule_lines (drop i ρs) ≡ []
unfolding rule_lines
lines_all ρs i h = at_drop_all rule_lines ρs i h
