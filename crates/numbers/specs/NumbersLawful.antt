-- Lists that are accepted spell out rules that keep the limits: what the numbers book owes as a book.
use Rattle.std.specs.Prelude.{◌≡◌, ℕ, ◌+◌, ◌<◌, ◌≤◌, true, not, ◌&&◌, List, length, ℤ, pos, negsuc, is_ok, Some, None, Option, nat_le, nat_lt, slice_index, slice_index_or, unsigned_abs, refl}
use Rattle.std.proofs.Common.{inl, inr, arith, length-take}
use Rattle.std.proofs.lemmas.List.{length-map}
use Rattle.std.proofs.ByRecursion.{All-map, All-from_get_or}
use Rattle.std.proofs.lemmas.Bool.{and_parts, leb-true, ltb-true, ltb-false, eqb-true, not-false, cases_lt}
use Rattle.std.specs.List.{list_all}
use Rattle.base.proofs.Search.{every_all, none_passes}
use Rattle.base.proofs.Verdicts.{ok_unless, ok_where}
use Rattle.book.specs.Rules.{Atom, Literal, LawfulRule, Lawful, head_limit}
use Rattle.numbers.specs.Numbers.{integer_at, count, kind_from, head_part, body_start, body_part, rule_end, rule_from, within, is_literal, sound_counts, sound_rule, sound_at, due_start, rest_fits, after_rules, first_faulty, numbers_verdict, spelled}
use Rattle.book.specs.declared.error.BookError.TheVariants.{TooManyAtoms, FaultyRest}
use Rattle.numbers.specs.declared.lists.RuleLists.{RuleLists}

pub within_atom : (n : ℕ) (z : ℤ) → within 1 n z ≡ true → Atom n (unsigned_abs z)
within_atom n (pos k) h = let b = and_parts (nat_le 1 k) (nat_le k n) h in (leb-true 1 k b.0, leb-true k n b.1)
within_atom n (negsuc k) h = absurd cc

pub is_literal_lem : (n : ℕ) (z : ℤ) → is_literal n z ≡ true → Literal n z
is_literal_lem n z h = let b = and_parts (nat_le 1 (unsigned_abs z)) (nat_le (unsigned_abs z) n) h in (leb-true 1 (unsigned_abs z) b.0, leb-true (unsigned_abs z) n b.1)

within_count : (n : ℕ) (z : ℤ) → within 0 n z ≡ true → count z ≤ n
within_count n (pos k) h = leb-true k n (and_parts (nat_le 0 k) (nat_le k n) h).1
within_count n (negsuc k) h = omega arith

-- what the test of one rule says, part by part
pub record SoundRule (n : ℕ) (xs : List ℤ) (s : ℕ) : Type 0 where
  pub type : within 0 1 (integer_at xs s) ≡ true
  pub heads : within 0 (head_limit (kind_from (integer_at xs s))) (integer_at xs (s + 1)) ≡ true
  pub body_type : within 0 0 (integer_at xs (body_start xs s)) ≡ true
  pub literals : within 0 255 (integer_at xs (body_start xs s + 1)) ≡ true
  pub inside : rule_end xs s ≤ length xs
  pub each_head : list_all (within 1 n) (head_part xs s) ≡ true
  pub each_literal : list_all (is_literal n) (body_part xs s) ≡ true

pub sound_parts : (n : ℕ) (xs : List ℤ) (s : ℕ) → sound_rule n xs s ≡ true → SoundRule n xs s
sound_parts n xs s h =
    let a = and_parts (sound_counts xs s && nat_le (rule_end xs s) (length xs)) (list_all (within 1 n) (head_part xs s) && list_all (is_literal n) (body_part xs s)) h in
    let b = and_parts (sound_counts xs s) (nat_le (rule_end xs s) (length xs)) a.0 in
    let c = and_parts _ _ b.0 in
    let d = and_parts _ _ c.0 in
    let e = and_parts _ _ c.1 in
    let f = and_parts _ _ a.1 in
    record {
      type = d.0;
      heads = d.1;
      body_type = e.0;
      literals = e.1;
      inside = leb-true (rule_end xs s) (length xs) b.1;
      each_head = f.0;
      each_literal = f.1;
    }

pub sound_lawful : (n : ℕ) (xs : List ℤ) (s : ℕ) → SoundRule n xs s → LawfulRule n (rule_from xs s)
sound_lawful n xs s h = record {
  heads = All-map (Atom n) unsigned_abs (head_part xs s) (every_all (within 1 n) (λ z. Atom n (unsigned_abs z)) (within_atom n) (head_part xs s) h.each_head);
  literals = every_all (is_literal n) (Literal n) (is_literal_lem n) (body_part xs s) h.each_literal;
  short_head = let k = within_count _ (integer_at xs (s + 1)) h.heads in simp (length-map, length-take) (omega arith);
  short_body = let k = within_count 255 (integer_at xs (body_start xs s + 1)) h.literals in simp length-take (omega arith);
}

-- what acceptance says, part by part
pub record Accepted (L : RuleLists) : Type 0 where
  pub few_atoms : L.atoms ≤ 1024
  pub none : first_faulty L ≡ None
  pub rest : rest_fits L ≡ true

accepted_after : (o : Option ℕ) (L : RuleLists) → is_ok (after_rules o L) ≡ true → (o ≡ None) × (rest_fits L ≡ true)
accepted_after (Some i) L h = absurd cc
accepted_after None L h = (refl, ok_where (rest_fits L) tt (FaultyRest (length L.starts.now)) h)

pub accepted_parts : (L : RuleLists) → is_ok (numbers_verdict L) ≡ true → Accepted L
accepted_parts L h =
    let a = ok_unless (nat_lt 1024 L.atoms) TooManyAtoms (after_rules (first_faulty L) L) h in
    let b = accepted_after (first_faulty L) L a.1 in
    record { few_atoms = ltb-false 1024 L.atoms a.0; none = b.0; rest = b.1 }

-- the rule at a place of accepted lists starts where it is due, and is sound
pub record Placed (L : RuleLists) (i : ℕ) : Type 0 where
  pub few : i < 2048
  pub due : slice_index_or L.starts.now i 0 ≡ due_start L.integers.now L.starts.now i
  pub sound : SoundRule L.atoms L.integers.now (slice_index L.starts.now i)

pub each_placed : (L : RuleLists) → first_faulty L ≡ None → (i : ℕ) → i < length L.starts.now → Placed L i
each_placed L h i l =
    let a = and_parts _ _ (not-false (sound_at L i) (none_passes (λ j. not (sound_at L j)) (length L.starts.now) i l h)) in
    let b = and_parts _ _ a.0 in
    record { few = ltb-true i 2048 b.0; due = eqb-true _ _ b.1; sound = sound_parts _ _ _ a.1 }

few_rules_lem : (L : RuleLists) → first_faulty L ≡ None → length L.starts.now ≤ 2048
few_rules_lem L h = elim (cases_lt 2048 (length L.starts.now)) [ inl l ↦ omega (arith, (each_placed L h 2048 l).few) | inr l ↦ l ]

pub accepted_lawful : (L : RuleLists) → is_ok (numbers_verdict L) ≡ true → Lawful (spelled L)
accepted_lawful L h =
    let a = accepted_parts L h in
    let xs = L.integers.now in
    let ss = L.starts.now in
    record {
      few_atoms = a.few_atoms;
      few_rules = simp length-map (few_rules_lem L a.none);
      each = All-map (LawfulRule L.atoms) (rule_from xs) ss
          (All-from_get_or (λ s. LawfulRule L.atoms (rule_from xs s)) ss 0 (λ i l. sound_lawful L.atoms xs (slice_index ss i) (each_placed L a.none i l).sound));
    }
