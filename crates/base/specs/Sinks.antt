-- What takes pieces one after another: a piece that fits, and what holds after it.
use Rattle.std.specs.Prelude.{◌≡◌, ℕ, Bool, true, cond, List, [], ◌++◌, ℤ, codes, Ok, Err, Result}
use Rattle.std.specs.Fmt.{signed_decimal}
use Rattle.base.specs.declared.short.TooShort.{TooShort}

-- two pieces one after another are as one piece
pub record SinkLaws {S X : Type 0} (fits : S → List X → Bool) (after : S → List X → S → Type 0) : Type 0 where
  pub nothing : (s : S) → (fits s [] ≡ true) × after s [] s
  pub first : (s : S) (xs ys : List X) → fits s (xs ++ ys) ≡ true → fits s xs ≡ true
  pub rest : (s t : S) (xs ys : List X) → fits s xs ≡ true → after s xs t → fits t ys ≡ fits s (xs ++ ys)
  pub both : (s t u : S) (xs ys : List X) → after s xs t → after t ys u → after s (xs ++ ys) u

-- the items are taken where all of them fit, and else the answer is that there is too little room
pub record Takes {S X : Type 0} (fits : S → List X → Bool) (after : S → List X → S → Type 0) (s : S) (xs : List X) (answer : Result (Unit {0}) TooShort) (t : S) : Type 0 where
  pub tells : answer ≡ cond (fits s xs) (Ok tt) (Err (record {}))
  pub taken : fits s xs ≡ true → after s xs t

-- a number in decimal, after a space
abbrev pub after_space : ℤ → List ℕ
after_space n = codes " " ++ signed_decimal n
