-- The number and the places that each refusal of a sheet is told by.
use Rattle.std.specs.Prelude.{ℕ}
use Rattle.base.specs.declared.refusal.Refusal.{Refusal}
use Rattle.sheet.specs.declared.error.SheetError.{SheetError}
use Rattle.sheet.specs.declared.error.SheetError.TheVariants.{UnknownAtom, WrongState, DuplicateAtom, ViolatedRule, AlreadyMarked, WrongSide, UnsuitableRule, MissingGround, NoEntry, TooShort}

abbrev at : ℕ → ℕ → ℕ → Refusal
at number first second = record { number = number; first = first; second = second }

abbrev pub refusal_of : SheetError → Refusal
refusal_of (UnknownAtom position) = at 5 position 0
refusal_of WrongState = at 9 0 0
refusal_of (DuplicateAtom position) = at 10 position 0
refusal_of (ViolatedRule rule) = at 11 rule 0
refusal_of AlreadyMarked = at 12 0 0
refusal_of WrongSide = at 13 0 0
refusal_of (UnsuitableRule rule) = at 14 rule 0
refusal_of (MissingGround rule position) = at 15 rule position
refusal_of NoEntry = at 16 0 0
refusal_of TooShort = at 17 0 0
