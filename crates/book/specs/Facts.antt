-- A list of atoms as a book of facts: which rules it spells out, what is wrong with it, and which book it makes.
use Rattle.std.specs.Prelude.{ℕ, Bool, cond, not, ◌&&◌, List, [], ◌∷◌, map, length, is_ok, Some, None, Ok, Err, Option, Result, nat_le, nat_lt, slice_index}
use Rattle.base.specs.Search.{least}
use Rattle.book.specs.Rules.{Rule, Rules, no_rules}
use Rattle.book.specs.declared.kind.Kind.TheVariants.{Plain}
use Rattle.book.specs.declared.error.BookError.{BookError}
use Rattle.book.specs.declared.error.BookError.TheVariants.{TooManyAtoms, FaultyRule}

-- a fact is a plain rule without a body
abbrev pub fact_rule : ℕ → Rule
fact_rule a = record { kind = Plain; head = a ∷ []; body = [] }

abbrev pub fact_rules : ℕ → List ℕ → Rules
fact_rules n facts = record { atoms = n; rules = map fact_rule facts }

abbrev pub sound_fact : ℕ → List ℕ → ℕ → Bool
sound_fact n facts i = nat_lt i 2048 && (nat_le 1 (slice_index facts i) && nat_le (slice_index facts i) n)

abbrev pub first_faulty_fact : ℕ → List ℕ → Option ℕ
first_faulty_fact n facts = least (λ i. not (sound_fact n facts i)) (length facts)

abbrev pub after_facts : Option ℕ → Result (Unit {0}) BookError
after_facts (Some i) = Err (FaultyRule i)
after_facts None = Ok tt

abbrev pub facts_verdict : ℕ → List ℕ → Result (Unit {0}) BookError
facts_verdict n facts = cond (nat_lt 1024 n) (Err TooManyAtoms) (after_facts (first_faulty_fact n facts))

abbrev pub facts_book : ℕ → List ℕ → Rules
facts_book n facts = cond (is_ok (facts_verdict n facts)) (fact_rules n facts) no_rules
