-- Facts that are accepted keep the limits: what the fact book owes as a book.
use Rattle.std.specs.Prelude.{◌≡◌, ℕ, ◌<◌, ◌≤◌, true, not, ◌&&◌, List, length, is_ok, Some, None, Option, nat_le, nat_lt, slice_index, refl}
use Rattle.std.proofs.Common.{inl, inr, arith}
use Rattle.std.proofs.lemmas.List.{length-map}
use Rattle.std.proofs.ByRecursion.{All-map, All-from_get_or}
use Rattle.std.proofs.lemmas.Bool.{and_parts, leb-true, ltb-true, ltb-false, not-false, cases_lt}
use Rattle.base.proofs.Search.{none_passes}
use Rattle.book.specs.Rules.{Atom, LawfulRule, Lawful}
use Rattle.book.specs.Facts.{fact_rule, fact_rules, sound_fact, first_faulty_fact, after_facts, facts_verdict}
use Rattle.base.proofs.Verdicts.{ok_unless}
use Rattle.book.specs.declared.error.BookError.TheVariants.{TooManyAtoms}

none_after : (o : Option ℕ) → is_ok (after_facts o) ≡ true → o ≡ None
none_after (Some i) h = absurd cc
none_after None h = refl

fact_lawful : (n a : ℕ) → Atom n a → LawfulRule n (fact_rule a)
fact_lawful n a h = record { heads = (h, tt); literals = tt; short_head = omega arith; short_body = omega arith }

module _ (n : ℕ) (facts : List ℕ) (none : first_faulty_fact n facts ≡ None) where
  sound : (i : ℕ) → i < length facts → (i < 2048) × Atom n (slice_index facts i)
  sound i l =
      let a = and_parts (nat_lt i 2048) (nat_le 1 (slice_index facts i) && nat_le (slice_index facts i) n) (not-false (sound_fact n facts i) (none_passes (λ j. not (sound_fact n facts j)) (length facts) i l none)) in
      let b = and_parts (nat_le 1 (slice_index facts i)) (nat_le (slice_index facts i) n) a.1 in
      (ltb-true i 2048 a.0, (leb-true 1 (slice_index facts i) b.0, leb-true (slice_index facts i) n b.1))

  few : length facts ≤ 2048
  few = elim (cases_lt 2048 (length facts)) [ inl l ↦ omega (arith, (sound 2048 l).0) | inr l ↦ l ]

pub accepted_facts : (n : ℕ) (facts : List ℕ) → is_ok (facts_verdict n facts) ≡ true → Lawful (fact_rules n facts)
accepted_facts n facts h =
    let a = ok_unless (nat_lt 1024 n) TooManyAtoms (after_facts (first_faulty_fact n facts)) h in
    let none = none_after (first_faulty_fact n facts) a.1 in
    record {
      few_atoms = ltb-false 1024 n a.0;
      few_rules = simp length-map (few n facts none);
      each = All-map (LawfulRule n) fact_rule facts (All-from_get_or (λ x. LawfulRule n (fact_rule x)) facts 0 (λ i l. fact_lawful n (slice_index facts i) (sound n facts none i l).1));
    }
