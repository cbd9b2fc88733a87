-- What a sheet means.
use Rattle.std.specs.Prelude.{Bool, false, List, [], Err, Result}
use Rattle.sheet.specs.declared.error.SheetError.{SheetError}
use Rattle.sheet.specs.declared.proposal.Proposal.{Proposal}
use Rattle.sheet.specs.Marks.{Atoms, Marks, marked_all, assuming}

pub record State : Type 0 where
  pub opened : Bool
  pub answer : Atoms
  pub assumed : Atoms
  pub entries : List Proposal

abbrev pub new : State
new = record { opened = false; answer = λ _. false; assumed = λ _. false; entries = [] }

-- exactly the assumed atoms are marked
abbrev pub assumed_marks : State → Marks
assumed_marks s = assuming s.assumed

-- the assumed atoms are marked false, every other atom as its entry says, and without one it is unmarked
abbrev pub marks : State → Marks
marks s = marked_all (assumed_marks s) s.entries

abbrev pub with_entries : State → List Proposal → State
with_entries s es = record { opened = s.opened; answer = s.answer; assumed = s.assumed; entries = es }

-- what a call answers, and the sheet after it
abbrev pub After : Type 0 → Type 0
After X = Result X SheetError × State

-- a refusal changes nothing
abbrev pub refused : {X : Type 0} → State → SheetError → After X
refused s e = (Err e, s)
