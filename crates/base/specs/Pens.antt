-- A list that is filled piece by piece.
use Rattle.std.specs.Prelude.{◌≡◌, ℕ, ◌+◌, Bool, cond, not, List, length, Ok, Err, Result}
use Rattle.std.proofs.lemmas.List.Edits.{sets}
use Rattle.base.specs.declared.pen.Pen.{Pen}
use Rattle.base.specs.declared.short.TooShort.{TooShort}
use Rattle.base.specs.Puts.{too_short}

-- a list, and the place where the next items go
pub record Page (X : Type 0) : Type 0 where
  pub list : List X
  pub at : ℕ

abbrev pub page : {X : Type 0} → Pen X → Page X
page p = record { list = p.out.now; at = p.at }

abbrev pub has_room : {X : Type 0} → Page X → List X → Bool
has_room P xs = not (too_short (length P.list) P.at xs)

abbrev pub with_items : {X : Type 0} → Page X → List X → Page X
with_items P xs = record { list = sets P.list P.at xs; at = P.at + length xs }

-- one call: what it answers, and the page afterwards
abbrev pub putting : {X : Type 0} → Page X → List X → Result (Unit {0}) TooShort × Page X
putting P xs = cond (has_room P xs) (Ok tt, with_items P xs) (Err (record {}), P)

-- the items were put, into the same list of the caller's
abbrev pub filled : {X : Type 0} → Pen X → List X → Pen X → Type 0
filled p xs q = (page q ≡ with_items (page p) xs) × (q.out.ghost_name ≡ p.out.ghost_name)
