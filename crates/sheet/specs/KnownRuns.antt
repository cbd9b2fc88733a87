-- Known runs: what the last call of a list answers, on two small books.
use Rattle.std.specs.Prelude.{◌≡◌, ℕ, List, [], ◌∷◌, map, ℤ, pos, neg_ℤ, Ok, Err}
use Rattle.book.specs.Rules.{Rule, Rules}
use Rattle.book.specs.declared.kind.Kind.{Kind}
use Rattle.book.specs.declared.kind.Kind.TheVariants.{Plain, Choice}
use Rattle.sheet.specs.declared.done.Done.TheVariants.{Struck, Completed}
use Rattle.sheet.specs.declared.error.SheetError.TheVariants.{UnknownAtom, WrongState, DuplicateAtom, ViolatedRule, AlreadyMarked, WrongSide, UnsuitableRule, MissingGround, NoEntry}
use Rattle.sheet.specs.declared.proposal.Reason.TheVariants.{Support, Lack}
use Rattle.sheet.specs.States.{new}
use Rattle.sheet.specs.Complete.{because}
use Rattle.sheet.specs.Runs.{Call, Open, Enter, Strike, Complete, Answer, call, run}

abbrev rule : Kind → List ℕ → List ℤ → Rule
rule kind head body = record { kind = kind; head = head; body = body }

-- the literal -a
abbrev minus : ℕ → ℤ
minus a = neg_ℤ (pos a)

-- 1 delivered, 2 release, 3 hold, 4 chosen where delivered; never 2 with 4
abbrev pub invoice : Rules
invoice = record {
  atoms = 4;
  rules =
      rule Plain (1 ∷ []) []
      ∷ rule Plain (2 ∷ []) (pos 1 ∷ minus 3 ∷ [])
      ∷ rule Plain (3 ∷ []) (minus 2 ∷ [])
      ∷ rule Choice (4 ∷ []) (pos 1 ∷ [])
      ∷ rule Plain [] (pos 2 ∷ pos 4 ∷ [])
      ∷ [];
}

-- 1 from 2, and 2 from 1
abbrev pub circle : Rules
circle = record { atoms = 2; rules = rule Plain (1 ∷ []) (pos 2 ∷ []) ∷ rule Plain (2 ∷ []) (pos 1 ∷ []) ∷ [] }

-- the calls before the last one, the last one, and its answer
pub record Row : Type 0 where
  pub book : Rules
  pub before : List Call
  pub last : Call
  pub answer : Answer

-- what the last call does answer, on a sheet that was new before the others
abbrev last_answer : Row → Answer
last_answer row = (call row.book (run row.book new row.before).1 row.last).0

abbrev row : Rules → List Call → Call → Answer → Row
row book before last answer = record { book = book; before = before; last = last; answer = answer }

abbrev released : Call
released = Open (pos 1 ∷ pos 2 ∷ minus 3 ∷ [])

abbrev an_answer_set_with_its_assumption_is_explained : Row
an_answer_set_with_its_assumption_is_explained = row invoice (released ∷ []) Complete (Ok (Completed 0))

abbrev an_answer_that_is_no_answer_set_stays_open : Row
an_answer_that_is_no_answer_set_stays_open = row invoice (Open (pos 1 ∷ pos 2 ∷ pos 3 ∷ []) ∷ []) Complete (Ok (Completed 3))

abbrev a_broken_rule_is_refused : Row
a_broken_rule_is_refused = row invoice [] (Open (pos 2 ∷ minus 3 ∷ [])) (Err (ViolatedRule 0))

abbrev an_unmarked_atom_is_not_false : Row
an_unmarked_atom_is_not_false = row invoice (Open (pos 1 ∷ pos 2 ∷ []) ∷ []) Complete (Ok (Completed 3))

abbrev a_choice_rule_can_support : Row
a_choice_rule_can_support = row invoice (Open (pos 1 ∷ pos 3 ∷ minus 2 ∷ []) ∷ []) Complete (Ok (Completed 1))

abbrev an_atom_left_open_can_be_assumed : Row
an_atom_left_open_can_be_assumed = row invoice (Open (pos 1 ∷ pos 3 ∷ minus 2 ∷ minus 4 ∷ []) ∷ []) Complete (Ok (Completed 0))

abbrev a_body_is_tested_against_the_marks : Row
a_body_is_tested_against_the_marks = row invoice (released ∷ []) (Enter (because 2 (Support 1))) (Err (MissingGround 1 0))

abbrev support_is_for_atoms_of_the_answer : Row
support_is_for_atoms_of_the_answer = row invoice (released ∷ []) (Enter (because 4 (Support 3))) (Err WrongSide)

abbrev striking_takes_off_what_rests_on_it : Row
striking_takes_off_what_rests_on_it = row invoice (released ∷ Complete ∷ []) (Strike 2) (Ok (Struck 2))

abbrev a_circle_supports_nothing : Row
a_circle_supports_nothing = row circle (Open (pos 1 ∷ pos 2 ∷ []) ∷ []) Complete (Ok (Completed 2))

abbrev a_sheet_is_opened_once : Row
a_sheet_is_opened_once = row invoice (released ∷ []) (Open []) (Err WrongState)

abbrev the_first_fault_in_a_list_counts : Row
the_first_fault_in_a_list_counts = row invoice [] (Open (pos 1 ∷ minus 1 ∷ pos 5 ∷ [])) (Err (DuplicateAtom 1))

abbrev an_atom_that_is_not_of_the_book_is_refused : Row
an_atom_that_is_not_of_the_book_is_refused = row invoice [] (Open (pos 1 ∷ pos 5 ∷ minus 1 ∷ [])) (Err (UnknownAtom 1))

abbrev a_mark_is_looked_at_before_the_side : Row
a_mark_is_looked_at_before_the_side = row invoice (released ∷ []) (Enter (because 3 (Support 2))) (Err AlreadyMarked)

abbrev support_is_by_a_rule_with_the_atom_in_its_head : Row
support_is_by_a_rule_with_the_atom_in_its_head = row invoice (released ∷ []) (Enter (because 2 (Support 0))) (Err (UnsuitableRule 0))

abbrev lack_names_the_rule_that_may_still_support : Row
lack_names_the_rule_that_may_still_support = row invoice (released ∷ []) (Enter (because 4 Lack)) (Err (MissingGround 3 0))

abbrev an_assumed_atom_has_no_entry : Row
an_assumed_atom_has_no_entry = row invoice (released ∷ []) (Strike 3) (Err NoEntry)

abbrev pub known_runs : List Row
known_runs =
    an_answer_set_with_its_assumption_is_explained
    ∷ an_answer_that_is_no_answer_set_stays_open
    ∷ a_broken_rule_is_refused
    ∷ an_unmarked_atom_is_not_false
    ∷ a_choice_rule_can_support
    ∷ an_atom_left_open_can_be_assumed
    ∷ a_body_is_tested_against_the_marks
    ∷ support_is_for_atoms_of_the_answer
    ∷ striking_takes_off_what_rests_on_it
    ∷ a_circle_supports_nothing
    ∷ a_sheet_is_opened_once
    ∷ the_first_fault_in_a_list_counts
    ∷ an_atom_that_is_not_of_the_book_is_refused
    ∷ a_mark_is_looked_at_before_the_side
    ∷ support_is_by_a_rule_with_the_atom_in_its_head
    ∷ lack_names_the_rule_that_may_still_support
    ∷ an_assumed_atom_has_no_entry
    ∷ []

abbrev pub KnownRunsAreRight : Type 0
KnownRunsAreRight = map last_answer known_runs ≡ map (λ row. row.answer) known_runs
