-- What a closure that is handed over computes, where it is called on some values only.
use Rattle.std.specs.Prelude.{◌≡◌, ℕ, Bool, ℤ, Some, Option, FitsSigned}
use Rattle.std.specs.Int.{w32}

-- whatever it answers of an item that is found is what the test says
abbrev pub ComputesOnFound : {X : Type 0} → (ℕ → Option X) → (X → Bool → Type 0) → (X → Bool) → Type 0
ComputesOnFound {X} found answers test = (at : ℕ) (x : X) (b : Bool) → Some x ≡ found at → answers x b → b ≡ test x

-- the same of any literal, which is a number of 32 bits
abbrev pub ComputesOnLiterals : (ℤ → Bool → Type 0) → (ℤ → Bool) → Type 0
ComputesOnLiterals answers test = (z : ℤ) (b : Bool) → FitsSigned w32 z → answers z b → b ≡ test z
