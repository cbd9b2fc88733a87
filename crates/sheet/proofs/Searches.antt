-- What a search for the first number, or the first place of a list, has found.
use Rattle.std.proofs.Common.{◌≡◌, ℕ, zero, suc, ◌<◌, Bool, true, false, cond, ◌⊎◌, List, [], ◌∷◌, length, Some, None, Option, sym, refl, ap, ◌∙◌, subst, inl, inr, arith}
use Rattle.std.specs.List.{AllByRecursion as Each, slice_get, HoldsAt, AllWithin}
use Rattle.std.specs.Option.{MatchOption, option_or}
use Rattle.base.specs.Search.{least}
use Rattle.base.proofs.Search.{none_passes, none_found, least_found}
use Rattle.sheet.specs.Lists.{passes}
use Rattle.sheet.proofs.Members.{all_from, in_nth}

some_parts : (n i : ℕ) (o : Option ℕ) (b : Bool) → option_or o (cond b (Some n) None) ≡ Some i → (o ≡ Some i) ⊎ ((o ≡ None) × (b ≡ true) × (n ≡ i))
some_parts n i None true e = inr (refl, refl, cc)
some_parts n i None false e = absurd cc
some_parts n i (Some k) b e = inl e

-- what is found passes
pub least_passes : (p : ℕ → Bool) (n i : ℕ) → least p n ≡ Some i → (i < n) × (p i ≡ true)
least_passes p zero i e = absurd cc
least_passes p (suc n) i e = elim (some_parts n i (least p n) (p n) e) [
  | inl h ↦ let r = least_passes p n i h in (omega (arith, r.0), r.1)
  | inr h ↦ (omega (arith, h.2), subst (λ k. p k ≡ true) h.2 h.1)
]

-- and nothing before it does
pub least_first : (p : ℕ → Bool) (n i : ℕ) → least p n ≡ Some i → (j : ℕ) → j < i → p j ≡ false
least_first p zero i e j l = absurd cc
least_first p (suc n) i e j l = elim (some_parts n i (least p n) (p n) e) [
  | inl h ↦ least_first p n i h j l
  | inr h ↦ none_passes p n j (omega (arith, h.2)) h.0
]

-- no place is found exactly where no element passes
module _ {X : Type 0} (p : X → Bool) where
  pub none_at : (xs : List X) → least (λ i. passes p (slice_get xs i)) (length xs) ≡ None → Each (λ x. p x ≡ false) xs
  none_at xs e =
      all_from (λ x. p x ≡ false) xs
      (λ x j. let k = in_nth xs x j in sym (ap (passes p) k.2) ∙ none_passes (λ i. passes p (slice_get xs i)) (length xs) k.0 k.1 e)

  fails_at : (xs : List X) (i : ℕ) → Each (λ x. p x ≡ false) xs → passes p (slice_get xs i) ≡ false
  fails_at [] i h = refl
  fails_at (x ∷ xs) zero h = h.0
  fails_at (x ∷ xs) (suc i) h = fails_at xs i h.1

  pub at_none : (xs : List X) → Each (λ x. p x ≡ false) xs → least (λ i. passes p (slice_get xs i)) (length xs) ≡ None
  at_none xs h = none_found (λ i. passes p (slice_get xs i)) (length xs) (λ i _. fails_at xs i h)

-- what `position` finds is the first place whose element passes
module _ {X : Type 0} (p : X → Bool) where
  read_at : (b : Bool) (xs : List X) (i : ℕ) → i < length xs → HoldsAt (λ x. p x ≡ b) xs i → passes p (slice_get xs i) ≡ b
  read_at b [] i l h = absurd (omega arith)
  read_at b (x ∷ xs) zero l h = h x
  read_at b (x ∷ xs) (suc i) l h = read_at b xs i (omega arith) h

  pub least_from_position : (xs : List X) (r : Option ℕ)
      → MatchOption r (AllWithin (λ x. p x ≡ false) xs 0 (length xs)) (λ i. (i < length xs) × HoldsAt (λ x. p x ≡ true) xs i × AllWithin (λ x. p x ≡ false) xs 0 i)
      → r ≡ least (λ i. passes p (slice_get xs i)) (length xs)
  least_from_position xs None h = sym (none_found _ (length xs) (λ i l. read_at false xs i l (λ d. h i d (omega arith) l)))
  least_from_position xs (Some i) h =
      least_found _ i (length xs) h.0 (sym (read_at true xs i h.0 h.1))
      (none_found _ i (λ k l. read_at false xs k (omega (arith, h.0)) (λ d. h.2 k d (omega arith) l)))
