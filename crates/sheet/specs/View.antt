-- The rules and the state that a sheet stands for.
use Rattle.std.specs.Prelude.{vec_items, Result}
use Rattle.book.specs.Rules.{Rules}
use Rattle.book.specs.declared.book.Book.{Ghosts}
use Rattle.sheet.specs.declared.sheet.Sheet.{Sheet}
use Rattle.sheet.specs.States.{State, After}
use Rattle.sheet.specs.Kept.{flagged}
use Rattle.sheet.specs.declared.error.SheetError.{SheetError}

pub record View : Type 0 where
  pub rules : Rules
  pub state : State

-- given what a book of its kind means
abbrev pub view : {B : Type 0} {ghosts : Ghosts B} → (B → Rules) → Sheet B ghosts → View
view meaning s = record {
  rules = meaning s.book.now;
  state = record { opened = s.opened; answer = flagged (vec_items s.answer); assumed = flagged (vec_items s.assumed); entries = vec_items s.entries };
}

-- what a call answers, and the sheet after it; the book stays the same
abbrev pub Left : Type 0 → Type 0
Left X = Result X SheetError × View

abbrev pub leaving : {X : Type 0} → (Rules → State → After X) → View → Left X
leaving call v = let o = call v.rules v.state in (o.0, record { rules = v.rules; state = o.1 })

-- the sheet after a part of a call
abbrev pub changing : (Rules → State → State) → View → View
changing step v = record { rules = v.rules; state = step v.rules v.state }
