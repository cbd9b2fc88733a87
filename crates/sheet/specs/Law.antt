-- The law over every list of calls on one sheet.
use Rattle.std.specs.Prelude.{◌≡◌, ℕ, Bool, true, false, not, ◌||◌, ◌⊎◌, List, map, Ok, Err}
use Rattle.std.specs.List.{AllByRecursion as Each, list_any}
use Rattle.book.specs.Rules.{Rules, Lawful, Atom}
use Rattle.sheet.specs.declared.done.Done.TheVariants.{Entered}
use Rattle.sheet.specs.declared.error.SheetError.TheVariants.{AlreadyMarked}
use Rattle.sheet.specs.declared.proposal.Proposal.{Proposal}
use Rattle.sheet.specs.Marks.{is_unmarked}
use Rattle.sheet.specs.AnswerSets.{AnswerSet}
use Rattle.sheet.specs.Allowed.{Allowed, Grounded}
use Rattle.sheet.specs.States.{State, new, assumed_marks, marks, After}
use Rattle.sheet.specs.Strike.{is_of}
use Rattle.sheet.specs.Complete.{unmarked, complete_call}
use Rattle.sheet.specs.Sound.{Sound}
use Rattle.sheet.specs.View.{View}
use Rattle.sheet.specs.Runs.{Call, Enter, Answer, run}

abbrev pub has_entry : List Proposal → ℕ → Bool
has_entry es a = list_any (is_of a) es

-- entered, or refused since the atom is marked already
abbrev pub EnteredOrMarked : Answer → Type 0
EnteredOrMarked answer = (answer ≡ Ok Entered) ⊎ (answer ≡ Err AlreadyMarked)

abbrev pub OutsideIsAssumed : Rules → State → Type 0
OutsideIsAssumed R s = (a : ℕ) → Atom R.atoms a → s.answer a ≡ false → s.assumed a ≡ true

-- Complete, called on the sheet s, does not mislead:
pub record Honest (R : Rules) (s : State) (o : After ℕ) : Type 0 where
  -- it answers how many atoms stay unmarked,
  pub counts : o.0 ≡ Ok (unmarked R (marks o.1))
  -- and nothing is allowed any more;
  pub nothing : (P : Proposal) → Allowed R s.answer (marks o.1) P → ⊥
  -- it answers 0 only if the answer is an answer set,
  pub proves : o.0 ≡ Ok 0 → AnswerSet R s.answer
  -- and always if it is one and every atom outside it was assumed.
  pub suffices : AnswerSet R s.answer → OutsideIsAssumed R s → o.0 ≡ Ok 0

-- What can be relied on at a sheet:
pub record Reliable (R : Rules) (s : State) : Type 0 where
  -- each entry is allowed when exactly the assumed atoms and the entries above it are marked,
  pub grounded : Grounded R s.answer (assumed_marks s) s.entries
  -- and no atom is marked but the assumed ones and those with an entry;
  pub marked : (a : ℕ) → is_unmarked (marks s a) ≡ not (s.assumed a || has_entry s.entries a)
  -- an honest helper is never shut out: on an open sheet every grounded list, entered next in its order,
  -- one call after another whatever each answers, meets no refusal but that an atom is marked already;
  pub helper : s.opened ≡ true → (Ps : List Proposal) → Grounded R s.answer (assumed_marks s) Ps → Each EnteredOrMarked (run R s (map Enter Ps)).0
  -- complete, called next on an open sheet, does not mislead.
  pub complete : s.opened ≡ true → Honest R s (complete_call R s)

-- What these calls on a new sheet answered, and the sheet that they left:
pub record Right (R : Rules) (calls : List Call) (answers : List Answer) (s : State) : Type 0 where
  -- each call was taken or refused, answered, and left the sheet exactly as its definition says,
  pub exact : (answers, s) ≡ run R new calls
  -- and the sheet can be relied on.
  pub reliable : Reliable R s

-- For every book, and every list of calls with any arguments, refused ones among them.
abbrev pub EveryRunIsRight : Type 0
EveryRunIsRight = (R : Rules) → Lawful R → (calls : List Call) → Right R calls (run R new calls).0 (run R new calls).1

-- The same for those who make the calls one by one: a new sheet is sound, each call keeps a sound sheet sound, and a sound
-- sheet can be relied on.
pub record SoundAndReliable (v : View) : Type 0 where
  pub sound : Sound v.rules v.state
  pub reliable : Reliable v.rules v.state

abbrev pub StaysReliable : View → View → Type 0
StaysReliable v w = Sound v.rules v.state → SoundAndReliable w

abbrev pub NeverMisleads : View → Type 0
NeverMisleads v = Sound v.rules v.state → v.state.opened ≡ true → Honest v.rules v.state (complete_call v.rules v.state)
