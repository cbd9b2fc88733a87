-- Items put at a place of a list: all of them or, where they do not fit, none.
use Rattle.std.specs.Prelude.{ℕ, ◌+◌, Bool, cond, List, length, Ok, Err, Result, nat_lt}
use Rattle.std.proofs.lemmas.List.Edits.{sets}
use Rattle.base.specs.declared.short.TooShort.{TooShort}

-- a list of this length ends before the last of the items
abbrev pub too_short : {X : Type 0} → ℕ → ℕ → List X → Bool
too_short room at xs = nat_lt room (at + length xs)

-- how many items were put
abbrev pub put_answer : {X : Type 0} → ℕ → ℕ → List X → Result ℕ TooShort
put_answer room at xs = cond (too_short room at xs) (Err (record {})) (Ok (length xs))

-- the list afterwards
abbrev pub put_into : {X : Type 0} → List X → ℕ → List X → List X
put_into old at xs = cond (too_short (length old) at xs) old (sets old at xs)
