-- Entering a proposal, and entering several one after another.
use Rattle.std.specs.Prelude.{◌≡◌, true, cond, not, ◌↔◌, List, [], ◌∷◌, ◌++◌, Ok, Err}
use Rattle.book.specs.Rules.{Rules}
use Rattle.sheet.specs.declared.error.SheetError.TheVariants.{WrongState}
use Rattle.sheet.specs.declared.proposal.Proposal.{Proposal}
use Rattle.sheet.specs.Allowed.{Allowed}
use Rattle.sheet.specs.Verdicts.{Verdict, verdict}
use Rattle.sheet.specs.States.{State, marks, with_entries, After, refused}

abbrev pub enter_by : State → Proposal → Verdict → After (Unit {0})
enter_by s P (Ok _) = (Ok tt, with_entries s (s.entries ++ (P ∷ [])))
enter_by s P (Err e) = refused s e

abbrev pub enter_call : Rules → State → Proposal → After (Unit {0})
enter_call R s P = cond (not s.opened) (refused s WrongState) (enter_by s P (verdict R s.answer (marks s) P))

-- whatever each call answers
abbrev pub enter_all : Rules → State → List Proposal → State
enter_all R s [] = s
enter_all R s (P ∷ Ps) = enter_all R (enter_call R s P).1 Ps

-- An open sheet takes a proposal exactly where it is allowed.
abbrev pub TakesTheAllowed : Rules → State → Proposal → Type 0
TakesTheAllowed R s P = s.opened ≡ true → ((enter_call R s P).0 ≡ Ok tt) ↔ Allowed R s.answer (marks s) P
