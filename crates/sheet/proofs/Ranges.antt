-- The numbers that a range with its end gives.
use Rattle.std.proofs.Common.{◌≡◌, ℕ, suc, ◌+◌, ◌-◌, Bool, true, false, List, ◌∷◌, length, Some, None, sym, refl, ap, ◌∙◌, subst, arith}
use Rattle.std.specs.List.{range_with_len}
use Rattle.std.specs.Range.{range_inclusive_len, range_inclusive_start, range_inclusive_end, range_inclusive_exhausted}
use Rattle.std.specs.declared.ops.RangeInclusive.{RangeInclusive}
use Rattle.std.proofs.iter.runs.Sources.{nat_range_inclusive_steps}
use Rattle.std.proofs.lemmas.Iterator.{YieldsList}
use Rattle.std.proofs.lemmas.Iterator.Consumers.{YieldsList-from_shown}

-- how many it has left
abbrev left : RangeInclusive ℕ → ℕ
left s = range_inclusive_len (λ x y. y - x) (range_inclusive_start s) (range_inclusive_end s) (range_inclusive_exhausted s)

abbrev shown : RangeInclusive ℕ → List ℕ
shown s = range_with_len (range_inclusive_start s) (left s)

none_left : (s : RangeInclusive ℕ) → range_inclusive_exhausted s ≡ true → left s ≡ 0
none_left s e = ap (range_inclusive_len (λ x y. y - x) (range_inclusive_start s) (range_inclusive_end s)) e

same_rest : (b : Bool) (t : RangeInclusive ℕ) (n : ℕ) → range_inclusive_exhausted t ≡ b → (range_inclusive_exhausted t ≡ false → range_inclusive_start t ≡ n) → range_with_len n (left t) ≡ shown t
same_rest false t n e h = ap (λ k. range_with_len k (left t)) (sym (h e))
same_rest true t n e h = ap (range_with_len n) (none_left t e) ∙ sym (ap (range_with_len (range_inclusive_start t)) (none_left t e))

one : (s : RangeInclusive ℕ) (x : ℕ) (t : RangeInclusive ℕ) → nat_range_inclusive_steps s (Some x) t → shown s ≡ x ∷ shown t
one s x t h =
    let size : left s ≡ suc (left t) = omega (arith, h.1.1) in
    ap (range_with_len (range_inclusive_start s)) size ∙ ap (λ k. k ∷ range_with_len (range_inclusive_start s + 1) (left t)) (sym h.1.0) ∙ ap (x ∷◌) (same_rest _ t (range_inclusive_start s + 1) refl h.1.2)

none : (s t : RangeInclusive ℕ) → nat_range_inclusive_steps s None t → length (shown s) ≡ 0
none s t h = ap (λ n. length (range_with_len (range_inclusive_start s) n)) h.1.0

pub YieldsList-from_inclusive : {s : RangeInclusive ℕ} (a b n : ℕ) → range_inclusive_start s ≡ a → range_inclusive_end s ≡ b → range_inclusive_exhausted s ≡ false → b + 1 - a ≡ n → YieldsList nat_range_inclusive_steps (λ x. x) s (range_with_len a n)
YieldsList-from_inclusive {s} a b n from to fresh size =
    let whole : left s ≡ n = omega (arith, ap (range_inclusive_len (λ x y. y - x) (range_inclusive_start s) (range_inclusive_end s)) fresh, from, to, size) in
    subst (YieldsList nat_range_inclusive_steps (λ x. x) s) (ap (λ k. range_with_len k (left s)) from ∙ ap (range_with_len a) whole) (YieldsList-from_shown nat_range_inclusive_steps (λ x. x) shown none one s)
