-- How many of the numbers 1 to n pass a test.
use Rattle.std.proofs.Common.{◌≡◌, ℕ, zero, suc, ◌+◌, ◌<◌, ◌≤◌, Bool, true, false, cond, ◌≢◌, List, ◌∷◌, length, filter, sym, refl, ap, ◌∙◌, inl, inr, add-zero, zero-add, add-one, arith}
use Rattle.std.specs.List.{range_with_len}
use Rattle.std.proofs.lemmas.Bool.{cases_eq}
use Rattle.std.proofs.lemmas.Bool.Decides.{nat_tests}
use Rattle.book.specs.Rules.{Atom}
use Rattle.sheet.specs.Lists.{how_many}

module _ (f : ℕ → Bool) where
  pub count_all : (n : ℕ) → how_many f n ≤ n
  count_all zero = omega arith
  count_all (suc n) = let k = count_all n in grind (arith, nat_tests)

  pub count_none : (n : ℕ) → ((a : ℕ) → Atom n a → f a ≡ false) → how_many f n ≡ 0
  count_none zero h = refl
  count_none (suc n) h = rw (h (suc n) (omega arith, omega arith)) (count_none n (λ a i. h a (i.0, omega (arith, i.1))))

  pub none_counted : (n a : ℕ) → Atom n a → how_many f n ≡ 0 → f a ≡ false
  none_counted zero a i e = absurd (omega arith)
  none_counted (suc n) a i e = elim (cases_eq a (suc n)) [
    | inl q ↦ rw q (grind (arith, nat_tests))
    | inr q ↦ none_counted n a (i.0, omega (arith, i.1)) (grind (arith, nat_tests))
  ]

-- a test that passes less often counts less, and really less where it differs
module _ (f g : ℕ → Bool) (h : (a : ℕ) → g a ≡ true → f a ≡ true) where
  count_le : (n : ℕ) → how_many g n ≤ how_many f n
  count_le zero = omega arith
  count_le (suc n) = let k = count_le n in let here = h (suc n) in grind (arith, nat_tests)

  pub count_less : (n a : ℕ) → Atom n a → f a ≡ true → g a ≡ false → how_many g n < how_many f n
  count_less zero a i p q = absurd (omega arith)
  count_less (suc n) a i p q = elim (cases_eq a (suc n)) [
    | inl e ↦ let k = count_le n in let fs : f (suc n) ≡ true = rw e at p in let gs : g (suc n) ≡ false = rw e at q in grind (arith, nat_tests)
    | inr e ↦ let k = count_less n a (i.0, omega (arith, i.1)) p q in let here = h (suc n) in grind (arith, nat_tests)
  ]

-- tests that differ at one number only count at most one apart
module _ (f g : ℕ → Bool) (p : ℕ) (same : (a : ℕ) → a ≢ p → f a ≡ g a) where
  count_below : (n : ℕ) → n < p → how_many f n ≤ how_many g n
  count_below zero l = omega arith
  count_below (suc n) l = let k = count_below n (omega arith) in let here = same (suc n) (λ e. omega arith) in grind (arith, nat_tests)

  pub count_one_less : (n : ℕ) → how_many f n ≤ suc (how_many g n)
  count_one_less zero = omega arith
  count_one_less (suc n) = elim (cases_eq (suc n) p) [
    | inl e ↦ let k = count_below n (omega arith) in grind (arith, nat_tests)
    | inr e ↦ let k = count_one_less n in let here = same (suc n) e in grind (arith, nat_tests)
  ]

-- the numbers 1 to n, as a range gives them
turn : (b : Bool) (count x : ℕ) (xs : List ℕ) → count + length (cond b (x ∷ xs) xs) ≡ cond b (suc count) count + length xs
turn true count x xs = omega arith
turn false count x xs = refl

module _ (f : ℕ → Bool) where
  counted_above : (n m : ℕ) → how_many f m + length (filter f (range_with_len (m + 1) n)) ≡ how_many f (m + n)
  counted_above zero m = simp add-zero
  counted_above (suc n) m =
      let rest = range_with_len (m + 1 + 1) n in
      let here : how_many f (m + 1) ≡ cond (f (m + 1)) (suc (how_many f m)) (how_many f m) = simp add-one in
      let next : m + 1 + n ≡ m + suc n = omega arith in
      turn (f (m + 1)) (how_many f m) (m + 1) (filter f rest) ∙ ap (λ k. k + length (filter f rest)) (sym here) ∙ counted_above n (m + 1) ∙ ap (how_many f) next

  pub counted : (n : ℕ) → length (filter f (range_with_len 1 n)) ≡ how_many f n
  counted n = simp zero-add at (counted_above n 0)
