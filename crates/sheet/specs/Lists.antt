-- Tests of lists and of numbers.
use Rattle.std.specs.Prelude.{ℕ, zero, suc, Bool, false, cond, List, Some, None, Option, nat_eq}
use Rattle.std.specs.List.{list_any}

abbrev pub has : List ℕ → ℕ → Bool
has xs a = list_any (nat_eq a) xs

-- what a look-up found passes the test
abbrev pub passes : {X : Type 0} → (X → Bool) → Option X → Bool
passes p None = false
passes p (Some x) = p x

-- how many of the numbers 1 to n pass the test
abbrev pub how_many : (ℕ → Bool) → ℕ → ℕ
how_many p zero = 0
how_many p (suc n) = cond (p (suc n)) (suc (how_many p n)) (how_many p n)
