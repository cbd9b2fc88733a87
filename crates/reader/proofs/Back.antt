-- What was written for a book reads back as its rules.
use Rattle.std.proofs.Common.{◌≡◌, ℕ, ◌+◌, ◌≤◌, Bool, true, false, cond, ◌||◌, ltb, List, [], ◌∷◌, ◌++◌, map, length, take, is_ok, Ok, Err, sym, refl, ap, ◌∙◌, arith}
use Rattle.std.specs.List.{AllByRecursion as Each}
use Rattle.std.proofs.ByRecursion.{All-weaker}
use Rattle.std.proofs.lemmas.List.{take_at}
use Rattle.std.proofs.lemmas.Bool.{cond-true, ltb-false}
use Rattle.book.specs.Rules.{Rule, Rules, Atom, Literal, LawfulRule}
use Rattle.book.specs.Encoding.{encode}
use Rattle.aspif.specs.Texts.{heading, closing, rule_line, rule_lines, text_of}
use Rattle.aspif.specs.Write.{write_answer, write_into}
use Rattle.aspif.specs.declared.error.TextError.TheVariants.{OverLimit, TooShort}
use Rattle.reader.specs.Statements.{rule}
use Rattle.reader.specs.Program.{line_of, lines_of, rules_of, assumed_of, Fits, AllPlaced}
use Rattle.reader.specs.ReadLaw.{WrittenReadsBack}
use Rattle.reader.proofs.Programs.{reads_exactly_programs}
use Rattle.reader.proofs.Wholes.{never}

-- rules as statements

lines_of_rules : (ρs : List Rule) → lines_of (map rule ρs) ≡ rule_lines ρs
unfolding lines_of rule_lines
lines_of_rules [] = refl
lines_of_rules (ρ ∷ ρs) = ap (rule_line ρ ++◌) (lines_of_rules ρs)

rules_of_rules : (ρs : List Rule) → rules_of (map rule ρs) ≡ ρs
unfolding rules_of
rules_of_rules [] = refl
rules_of_rules (ρ ∷ ρs) = ap (ρ ∷◌) (rules_of_rules ρs)

none_assumed : (ρs : List Rule) → assumed_of (map rule ρs) ≡ []
unfolding assumed_of
none_assumed [] = refl
none_assumed (ρ ∷ ρs) = none_assumed ρs

all_placed : (at : ℕ) (ρs : List Rule) → AllPlaced at (map rule ρs)
all_placed at [] = tt
all_placed at (ρ ∷ ρs) = (tt, all_placed (at + length (line_of (rule ρ))) ρs)

rule_over_more : (n m : ℕ) → n ≤ m → (ρ : Rule) → LawfulRule n ρ → LawfulRule m ρ
rule_over_more n m l ρ h = record {
  heads = All-weaker (Atom n) (Atom m) (λ a p. (p.0, omega arith)) ρ.head h.heads;
  literals = All-weaker (Literal n) (Literal m) (λ z p. (p.0, omega arith)) ρ.body h.literals;
  short_head = h.short_head;
  short_body = h.short_body;
}

rules_fit : (n : ℕ) (ρs : List Rule) → n ≤ 1024 → Each (LawfulRule n) ρs → Each Fits (map rule ρs)
rules_fit n [] few l = tt
rules_fit n (ρ ∷ ρs) few l = (rule_over_more n 1024 few ρ l.0, rules_fit n ρs few l.1)

-- what `write` says of the text that it wrote

record WasWritten (R : Rules) (room n : ℕ) : Type 0 where
  bytes : length (text_of R) ≤ 65536
  integers : length (encode R.rules) ≤ 16384
  size : n ≡ length (text_of R)

was_written_by : (R : Rules) (room n : ℕ) (a b : Bool) → ltb 65536 (length (text_of R)) ≡ a → ltb 16384 (length (encode R.rules)) ≡ b → (t : Bool) → cond (a || b) (Err (OverLimit 0)) (cond t (Err TooShort) (Ok (length (text_of R)))) ≡ Ok n → WasWritten R room n
was_written_by R room n true b ea eb t h = never h
was_written_by R room n false true ea eb t h = never h
was_written_by R room n false false ea eb true h = never h
was_written_by R room n false false ea eb false h = record { bytes = ltb-false _ _ ea; integers = ltb-false _ _ eb; size = cc }

was_written : (R : Rules) (room n : ℕ) → write_answer R room ≡ Ok n → WasWritten R room n
was_written R room n h = was_written_by R room n _ _ refl refl (ltb room (length (text_of R))) h

front_is : (R : Rules) (buffer : List ℕ) (n : ℕ) → write_answer R (length buffer) ≡ Ok n → take n (write_into R buffer) ≡ text_of R
front_is R buffer n h =
    let w = was_written R (length buffer) n h in
    ap (take n) (cond-true (is_ok (write_answer R (length buffer))) _ _ (ap is_ok h)) ∙ take_at (text_of R) _ n (sym w.size)

pub written_reads_back : (text : List ℕ) → WrittenReadsBack text
written_reads_back text R buffer n l h e =
    let w = was_written R (length buffer) n h in
    let ss = map rule R.rules in
    let rules = rules_of_rules R.rules in
    let same : text ≡ text_of R = e ∙ front_is R buffer n h in
    (reads_exactly_programs text).programs_are_read ss (record {
      written = same ∙ ap (λ t. heading ++ (t ++ closing)) (sym (lines_of_rules R.rules));
      short = omega (arith, ap length same, w.bytes);
      limits = record {
        each = rules_fit R.atoms R.rules l.few_atoms l.each;
        few_rules = omega (arith, ap length rules, l.few_rules);
        few_integers = omega (arith, ap (λ ρs. length (encode ρs)) rules, w.integers);
        few_assumed = omega (arith, ap length (none_assumed R.rules));
      };
      placed = all_placed _ R.rules;
    })
