-- What a look over a range of numbers finds: the least number that passes.
use Rattle.std.proofs.Common.{◌≡◌, ℕ, ◌<◌, ◌≤◌, Bool, true, false, List, Some, None, Option, sym, arith}
use Rattle.std.specs.Bool.{⊤}
use Rattle.std.specs.Fn.{CalledAt}
use Rattle.std.specs.Iterator.{YieldsThen}
use Rattle.std.specs.List.{FoldsTo}
use Rattle.std.specs.Option.{MatchOption}
use Rattle.std.specs.declared.ops.Range.{Range}
use Rattle.std.proofs.iter.Yields.{nat_range_steps}
use Rattle.std.proofs.lemmas.Iterator.{first_from_Range}
use denote.Param.Members.{Mut}
use denote.Ref.{Bor}
use Rattle.base.specs.Search.{least}
use Rattle.base.proofs.Search.{least_found, none_found}

module _ (p : ℕ → Bool) (n : ℕ) where
  first_found : (r : Option ℕ) → MatchOption r ((k : ℕ) → 0 ≤ k → k < n → p k ≡ false) (λ i. (0 ≤ i) × (i < n) × (p i ≡ true) × ((k : ℕ) → 0 ≤ k → k < i → p k ≡ false)) → r ≡ least p n
  first_found None h = sym (none_found p n (λ k l. h k (omega arith) l))
  first_found (Some i) h = least_found p i n h.1 (sym h.2) (none_found p i (λ k l. h.3 k (omega arith) l))

  -- a call of the closure answers the test, and changes nothing
  pub least_from_find : {F : Type 0} {g : Mut F (Bor ℕ × Unit {0}) Bool} (u : Range ℕ) (f : F) (r : Option ℕ)
      → (xs : List ℕ) × (j : F) × YieldsThen nat_range_steps (record { start = 0; end = n }) xs r u × FoldsTo (λ q x t. CalledAt g q x false t) f xs j × MatchOption r ⊤ (λ x. (h : F) × CalledAt g j x true h)
      → ((x : ℕ) (b : Bool) (q : F) → CalledAt g f x b q → (b ≡ p x) × (q ≡ f)) → r ≡ least p n
  least_from_find u f r ran tells =
      first_found r (first_from_Range (record { start = 0; end = n }) u f r (λ x. p x ≡ true) (λ x. p x ≡ false) ran (λ x q k. sym (tells x true q k).0) (λ x q k. let t = tells x false q k in (t.1, sym t.0)))
