-- Standing rules and the facts of the day, put together, checked and written.
use Rattle.std.specs.Prelude.{ℕ, cond, List, ◌++◌, length, drop, is_ok, Ok, Err, Result}
use Rattle.book.specs.Rules.{Rules}
use Rattle.numbers.specs.Numbers.{numbers_verdict, numbers_book}
use Rattle.book.specs.Facts.{facts_verdict, facts_book}
use Rattle.book.specs.Joined.{joined}
use Rattle.book.specs.declared.error.BookError.{BookError}
use Rattle.numbers.specs.declared.lists.RuleLists.{RuleLists}
use Rattle.aspif.specs.Texts.{text_of}
use Rattle.aspif.specs.Write.{write_answer}
use Rattle.aspif.specs.declared.error.TextError.{TextError}
use Rattle.report.specs.declared.fault.Fault.{Fault}
use Rattle.report.specs.declared.fault.Fault.TheVariants.{Text, Book}

-- goes on where the lists are accepted, and else hands the refusal on
abbrev pub accepted : {X : Type 0} → Result (Unit {0}) BookError → Result X Fault → Result X Fault
accepted (Ok u) next = next
accepted (Err e) next = Err (Book e)

abbrev pub written : {X : Type 0} → Result X TextError → Result X Fault
written (Ok x) = Ok x
written (Err e) = Err (Text e)

-- the rules, and after them the facts, over the same atoms
abbrev pub composed : RuleLists → List ℕ → Rules
composed L facts = joined (numbers_book L) (facts_book L.atoms facts)

abbrev pub compose_answer : RuleLists → List ℕ → ℕ → Result ℕ Fault
compose_answer L facts room =
    accepted (numbers_verdict L) (accepted (facts_verdict L.atoms facts) (written (write_answer (composed L facts) room)))

-- the text from the front on, and then what was there before; after a refusal all is as it was
abbrev pub compose_into : RuleLists → List ℕ → List ℕ → List ℕ
compose_into L facts old =
    cond (is_ok (compose_answer L facts (length old))) (text_of (composed L facts) ++ drop (length (text_of (composed L facts))) old) old
