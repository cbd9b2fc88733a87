-- Lists of calls on one sheet.
use Rattle.std.specs.Prelude.{ℕ, List, [], ◌∷◌, ℤ, Ok, Err, Result}
use Rattle.book.specs.Rules.{Rules}
use Rattle.sheet.specs.declared.done.Done.{Done}
use Rattle.sheet.specs.declared.done.Done.TheVariants.{Opened, Entered, Struck, Completed}
use Rattle.sheet.specs.declared.error.SheetError.{SheetError}
use Rattle.sheet.specs.declared.proposal.Proposal.{Proposal}
use Rattle.sheet.specs.States.{State, After}
use Rattle.sheet.specs.Open.{open_call}
use Rattle.sheet.specs.Enter.{enter_call}
use Rattle.sheet.specs.Strike.{strike_call}
use Rattle.sheet.specs.Complete.{complete_call}

-- a call with its arguments, whatever they are
pub data Call : Type 0 where
  Open : List ℤ → Call
  Enter : Proposal → Call
  Strike : ℕ → Call
  Complete : Call

abbrev pub Answer : Type 0
Answer = Result Done SheetError

abbrev pub answered : {X : Type 0} → (X → Done) → Result X SheetError → Answer
answered done (Ok x) = Ok (done x)
answered done (Err e) = Err e

abbrev pub telling : {X : Type 0} → (X → Done) → After X → After Done
telling done o = (answered done o.0, o.1)

abbrev pub call : Rules → State → Call → After Done
call R s (Open zs) = telling (λ _. Opened) (open_call R s zs)
call R s (Enter P) = telling (λ _. Entered) (enter_call R s P)
call R s (Strike p) = telling Struck (strike_call R s p)
call R s Complete = telling Completed (complete_call R s)

-- one call after another, refused or not: what each answers, and the sheet at the end
abbrev pub run : Rules → State → List Call → List Answer × State
run R s [] = ([], s)
run R s (c ∷ cs) = let o = call R s c in let later = run R o.1 cs in (o.0 ∷ later.0, later.1)
