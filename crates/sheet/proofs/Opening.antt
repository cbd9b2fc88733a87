-- What a list of literals without fault says, and the sheet that it opens.
use Rattle.std.proofs.Common.{◌≡◌, ℕ, zero, suc, ◌<◌, ◌≤◌, true, false, not, eqb, List, length, get_or, take, ℤ, pos, negsuc, nat_abs, Some, None, sym, refl, ap, ◌∙◌, subst, inl, inr, arith}
use Rattle.std.specs.List.{slice_get}
use Rattle.std.proofs.lemmas.Option.{same_Some, slice_get-get_or}
use Rattle.std.proofs.lemmas.Bool.{false≢true, both_ways, not-false, or_parts, eqb-true, eq-eqb, cases_Bool, cases_order}
use Rattle.base.proofs.Search.{none_passes}
use Rattle.book.specs.Rules.{Rules, Atom}
use Rattle.sheet.specs.Lists.{passes, how_many}
use Rattle.sheet.specs.Marks.{is_atom}
use Rattle.sheet.specs.Bodies.{is_positive, is_negative}
use Rattle.sheet.specs.AnswerSets.{broken}
use Rattle.sheet.specs.Open.{positives, negatives, named, unknown_at, repeated_at, faulty_at, first_fault, first_broken, open_taken}
use Rattle.sheet.specs.Sound.{Sound}
use Rattle.sheet.proofs.Members.{In, some_at, some_from, in_nth, in_take, in_take_more}
use Rattle.sheet.proofs.Searches.{none_at, least_passes, least_first}
use Rattle.sheet.proofs.Counts.{count_all, count_less}
use Rattle.sheet.proofs.Verdicts.{atom_is}

module _ (a : ℕ) where
  abs_positive : (z : ℤ) → is_positive a z ≡ true → nat_abs z ≡ a
  abs_positive (pos b) e = sym (eqb-true a b e)
  abs_positive (negsuc b) e = absurd (false≢true e)

  abs_negative : (z : ℤ) → is_negative a z ≡ true → nat_abs z ≡ a
  abs_negative (pos b) e = absurd (false≢true e)
  abs_negative (negsuc b) e = sym (eqb-true a (suc b) e)

  not_both : (z : ℤ) → is_positive a z ≡ true → is_negative a z ≡ true → ⊥
  not_both (pos b) e f = false≢true f
  not_both (negsuc b) e f = false≢true e

-- the literal at a position without fault
module _ (R : Rules) (zs : List ℤ) (at : ℕ) (z : ℤ) (here : slice_get zs at ≡ Some z) where
  atom_at : unknown_at R zs at ≡ false → Atom R.atoms (nat_abs z)
  atom_at e = atom_is R (nat_abs z) (not-false (is_atom R (nat_abs z)) (sym (ap (passes (λ y. not (is_atom R (nat_abs y)))) here) ∙ e))

  fresh_at : repeated_at zs at ≡ false → named (take at zs) (nat_abs z) ≡ false
  fresh_at e = sym (ap (passes (λ y. named (take at zs) (nat_abs y))) here) ∙ e

module _ (R : Rules) (zs : List ℤ) (e : first_fault R zs ≡ None) where
  faultless : (at : ℕ) → at < length zs → (unknown_at R zs at ≡ false) × (repeated_at zs at ≡ false)
  unfolding first_fault
  faultless at l =
      or_parts (unknown_at R zs at) (repeated_at zs at) (none_passes (faulty_at R zs) (length zs) at l e)

  pub known : (z : ℤ) → In z zs → Atom R.atoms (nat_abs z)
  known z i = let k = in_nth zs z i in atom_at R zs k.0 z k.2 (faultless k.0 k.1).0

  -- no atom stands twice
  once : (j k : ℕ) (y z : ℤ) → slice_get zs j ≡ Some y → slice_get zs k ≡ Some z → k < length zs → nat_abs z ≡ nat_abs y → j < k → ⊥
  once j k y z f g l same before =
      both_ways (named (take k zs) (nat_abs z)) (fresh_at R zs k z g (faultless k l).1)
      (some_from (λ x. eqb (nat_abs z) (nat_abs x)) (take k zs) y (in_take zs j k y f before) (eq-eqb (nat_abs z) (nat_abs y) same))

  positive_known : (a : ℕ) → positives zs a ≡ true → Atom R.atoms a
  positive_known a h = let r = some_at (is_positive a) zs h in subst (Atom R.atoms) (abs_positive a r.0 r.2) (known r.0 r.1)

  negative_known : (a : ℕ) → negatives zs a ≡ true → Atom R.atoms a
  negative_known a h = let r = some_at (is_negative a) zs h in subst (Atom R.atoms) (abs_negative a r.0 r.2) (known r.0 r.1)

  both_signs : (a : ℕ) → positives zs a ≡ true → negatives zs a ≡ true → ⊥
  both_signs a h k =
      let r = some_at (is_positive a) zs h in
      let s = some_at (is_negative a) zs k in
      let i = in_nth zs r.0 r.1 in
      let j = in_nth zs s.0 s.1 in
      let same : nat_abs r.0 ≡ nat_abs s.0 = abs_positive a r.0 r.2 ∙ sym (abs_negative a s.0 s.2) in
      elim (cases_order i.0 j.0) [
        | inl q ↦ let one : r.0 ≡ s.0 = same_Some _ _ (sym i.2 ∙ ap (slice_get zs) q ∙ j.2) in not_both a r.0 r.2 (rw one s.2)
        | inr (inl l) ↦ once i.0 j.0 r.0 s.0 i.2 j.2 j.1 (sym same) l
        | inr (inr l) ↦ once j.0 i.0 s.0 r.0 j.2 i.2 i.1 same l
      ]

  pub taken_sound : first_broken R (positives zs) ≡ None → Sound R (open_taken zs)
  unfolding first_broken
  taken_sound h = record {
    inside = positive_known;
    assumed = negative_known;
    apart = λ a n. elim (cases_Bool (positives zs a)) [ inl p ↦ absurd (both_signs a p n) | inr p ↦ p ];
    unbroken = λ _. none_at (broken (positives zs)) R.rules h;
    grounded = tt;
  }

-- the atoms before the first fault are different ones of the book, so there are no more of them than the book has

module _ (R : Rules) (zs : List ℤ) where
  as_many_named : (k : ℕ) → k ≤ length zs → ((at : ℕ) → at < k → faulty_at R zs at ≡ false) → k ≤ how_many (named (take k zs)) R.atoms
  as_many_named zero l h = omega arith
  as_many_named (suc k) l h =
      let z = get_or zs k (pos 0) in
      let here : slice_get zs k ≡ Some z = slice_get-get_or zs k (pos 0) (omega arith) in
      let fine = or_parts (unknown_at R zs k) (repeated_at zs k) (h k (omega arith)) in
      let before = as_many_named k (omega arith) (λ at j. h at (omega arith)) in
      let more = count_less (named (take (suc k) zs)) (named (take k zs))
      (λ a e. let r = some_at (λ y. eqb a (nat_abs y)) (take k zs) e in
      some_from (λ y. eqb a (nat_abs y)) (take (suc k) zs) r.0 (in_take_more zs k r.0 r.1) r.2)
      R.atoms (nat_abs z) (atom_at R zs k z here fine.0)
      (some_from (λ y. eqb (nat_abs z) (nat_abs y)) (take (suc k) zs) z (in_take zs k (suc k) z here (omega arith)) (eq-eqb (nat_abs z) (nat_abs z) refl))
      (fresh_at R zs k z here fine.1) in
      omega arith

  pub fault_early : (at : ℕ) → first_fault R zs ≡ Some at → at ≤ R.atoms
  unfolding first_fault
  fault_early at e =
      let found = least_passes (faulty_at R zs) (length zs) at e in
      omega (arith, as_many_named at (omega (arith, found.0)) (least_first (faulty_at R zs) (length zs) at e), count_all (named (take at zs)) R.atoms)
