-- Opening a sheet: a list of literals fixes the answer and the assumed atoms.
use Rattle.std.specs.Prelude.{ℕ, Bool, true, cond, not, ◌||◌, List, [], length, take, ℤ, Some, None, Ok, Option, nat_eq, unsigned_abs}
use Rattle.std.specs.List.{slice_get, list_any}
use Rattle.base.specs.Search.{least}
use Rattle.book.specs.Rules.{Rules, rule_at}
use Rattle.sheet.specs.declared.error.SheetError.{SheetError}
use Rattle.sheet.specs.declared.error.SheetError.TheVariants.{UnknownAtom, WrongState, DuplicateAtom, ViolatedRule}
use Rattle.sheet.specs.Lists.{passes}
use Rattle.sheet.specs.Marks.{Atoms, is_atom}
use Rattle.sheet.specs.Bodies.{is_positive, is_negative}
use Rattle.sheet.specs.AnswerSets.{broken}
use Rattle.sheet.specs.States.{State, After, refused}

-- the answer is the positive literals, and the atoms of the negative ones are assumed
abbrev pub positives : List ℤ → Atoms
positives zs a = list_any (is_positive a) zs

abbrev pub negatives : List ℤ → Atoms
negatives zs a = list_any (is_negative a) zs

-- the atoms of the list, with either sign
abbrev pub named : List ℤ → Atoms
named zs a = list_any (λ z. nat_eq a (unsigned_abs z)) zs

-- the literal at a position is of no atom of the book
abbrev pub unknown_at : Rules → List ℤ → ℕ → Bool
unknown_at R zs at = passes (λ z. not (is_atom R (unsigned_abs z))) (slice_get zs at)

-- the atom at a position stands earlier in the list
abbrev pub repeated_at : List ℤ → ℕ → Bool
repeated_at zs at = passes (λ z. named (take at zs) (unsigned_abs z)) (slice_get zs at)

abbrev pub faulty_at : Rules → List ℤ → ℕ → Bool
faulty_at R zs at = unknown_at R zs at || repeated_at zs at

unfoldable pub first_fault : Rules → List ℤ → Option ℕ
first_fault R zs = least (faulty_at R zs) (length zs)

abbrev pub broken_at : Rules → Atoms → ℕ → Bool
broken_at R A rule = passes (broken A) (rule_at R rule)

unfoldable pub first_broken : Rules → Atoms → Option ℕ
first_broken R A = least (broken_at R A) (length R.rules)

abbrev pub fault_at : Rules → List ℤ → ℕ → SheetError
fault_at R zs at = cond (unknown_at R zs at) (UnknownAtom at) (DuplicateAtom at)

abbrev pub open_taken : List ℤ → State
open_taken zs = record { opened = true; answer = positives zs; assumed = negatives zs; entries = [] }

-- by the first broken rule
abbrev pub open_rules : State → List ℤ → Option ℕ → After (Unit {0})
open_rules s zs None = (Ok tt, open_taken zs)
open_rules s zs (Some rule) = refused s (ViolatedRule rule)

-- by the first fault of the list
abbrev pub open_list : Rules → State → List ℤ → Option ℕ → After (Unit {0})
open_list R s zs None = open_rules s zs (first_broken R (positives zs))
open_list R s zs (Some at) = refused s (fault_at R zs at)

-- refused if it is open already, then at the first fault of the list, then at the first broken rule
abbrev pub open_call : Rules → State → List ℤ → After (Unit {0})
open_call R s zs = cond s.opened (refused s WrongState) (open_list R s zs (first_fault R zs))
