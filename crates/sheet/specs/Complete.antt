-- Completing a sheet: rounds over all atoms, until one enters nothing.
use Rattle.std.specs.Prelude.{ℕ, zero, suc, Bool, cond, not, length, is_ok, Some, None, Ok, Option, ◌==◌}
use Rattle.std.specs.Option.{option_map, option_or}
use Rattle.base.specs.Search.{least}
use Rattle.book.specs.Rules.{Rules}
use Rattle.sheet.specs.declared.error.SheetError.TheVariants.{WrongState}
use Rattle.sheet.specs.declared.proposal.Reason.{Reason}
use Rattle.sheet.specs.declared.proposal.Reason.TheVariants.{Support, Lack, Required}
use Rattle.sheet.specs.declared.proposal.Proposal.{Proposal}
use Rattle.sheet.specs.Lists.{how_many}
use Rattle.sheet.specs.Marks.{Marks, is_unmarked}
use Rattle.sheet.specs.Verdicts.{verdict}
use Rattle.sheet.specs.States.{State, marks, After, refused}
use Rattle.sheet.specs.Enter.{enter_call}

abbrev pub because : ℕ → Reason → Proposal
because p w = record { atom = p; reason = w }

-- the sheet has no objection to the reason
abbrev pub admits : Rules → State → ℕ → Reason → Bool
admits R s p w = is_ok (verdict R s.answer (marks s) (because p w))

abbrev pub admits_by : Rules → State → ℕ → (ℕ → Reason) → ℕ → Bool
admits_by R s p by rule = admits R s p (by rule)

-- the reason by the lowest rule that is admitted
unfoldable pub lowest : Rules → State → ℕ → (ℕ → Reason) → Option Reason
lowest R s p by = option_map by (least (admits_by R s p by) (length R.rules))

-- the first reason that is admitted: support by the lowest rule, else lack, else required by the lowest rule
unfoldable pub first_reason : Rules → State → ℕ → Option Reason
first_reason R s p = option_or (lowest R s p Support) (option_or (cond (admits R s p Lack) (Some Lack) None) (lowest R s p Required))

abbrev pub enter_first : Rules → State → ℕ → Option Reason → State
enter_first R s p None = s
enter_first R s p (Some w) = (enter_call R s (because p w)).1

-- the atoms 1 to n in turn
abbrev pub sweep : Rules → State → ℕ → State
sweep R s zero = s
sweep R s (suc n) = let t = sweep R s n in enter_first R t (suc n) (first_reason R t (suc n))

unfoldable pub round : Rules → State → State
round R s = sweep R s R.atoms

-- no entry was made
abbrev pub is_idle : State → State → Bool
is_idle s t = length t.entries == length s.entries

-- rounds until one is idle, at most so many
abbrev pub rounds : Rules → ℕ → State → State
rounds R zero s = s
rounds R (suc most) s = let t = round R s in cond (is_idle s t) t (rounds R most t)

abbrev pub unmarked : Rules → Marks → ℕ
unmarked R m = how_many (λ a. is_unmarked (m a)) R.atoms

-- each round but the last marks an atom, so one more than there are atoms is enough
abbrev pub completed : Rules → State → State
completed R s = rounds R (suc R.atoms) s

abbrev pub complete_call : Rules → State → After ℕ
complete_call R s = cond (not s.opened) (refused s WrongState) (let t = completed R s in (Ok (unmarked R (marks t)), t))
