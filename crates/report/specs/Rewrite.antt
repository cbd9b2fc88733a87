-- The rules of a text, read and written again.
use Rattle.std.specs.Prelude.{ℕ, Bool, cond, List, ◌++◌, length, drop, is_ok, Ok, Err, Result}
use Rattle.book.specs.Rules.{Rules}
use Rattle.numbers.specs.Numbers.{numbers_verdict, numbers_book}
use Rattle.numbers.specs.declared.lists.RuleLists.{RuleLists}
use Rattle.aspif.specs.Texts.{text_of}
use Rattle.aspif.specs.Write.{write_answer}
use Rattle.aspif.specs.declared.error.TextError.{TextError}
use Rattle.reader.specs.Statements.{Stmt}
use Rattle.reader.specs.Program.{atoms_of, rules_of}
use Rattle.reader.specs.Fill.{listed}
use Rattle.reader.specs.Read.{statements_of, read_answer}
use Rattle.reader.specs.declared.pieces.Counts.{Counts}
use Rattle.report.specs.Compose.{accepted, written}
use Rattle.report.specs.Told.{tell_answer, tell_into}
use Rattle.report.specs.declared.fault.Fault.{Fault}
use Rattle.report.specs.declared.fault.Fault.TheVariants.{Text}

-- goes on where the text is read, and else hands the refusal on
abbrev pub after_reading : {X : Type 0} → Result Counts TextError → Result X Fault → Result X Fault
after_reading (Ok C) next = next
after_reading (Err e) next = Err (Text e)

abbrev pub book_of : List Stmt → Rules
book_of ss = record { atoms = atoms_of ss; rules = rules_of ss }

-- the rules of a text as a book
abbrev pub rules_in : List ℕ → Rules
rules_in text = book_of (listed (statements_of text))

-- a book's text from the front on, and then what was there before; after a refusal all is as it was
abbrev pub put_text : {X E : Type 0} → Result X E → Rules → List ℕ → List ℕ
put_text answer R old = cond (is_ok answer) (text_of R ++ drop (length (text_of R)) old) old

-- of lists that spell out a book
abbrev pub lists_answer : RuleLists → ℕ → Result ℕ Fault
lists_answer L room = accepted (numbers_verdict L) (written (write_answer (numbers_book L) room))

-- how many bytes the text has; with room in the lists for what is read
abbrev pub rewrite_answer : List ℕ → (Counts → Bool) → ℕ → Result ℕ Fault
rewrite_answer text list_room room = after_reading (read_answer text list_room) (written (write_answer (rules_in text) room))

-- What is put in place of a text that cannot be had: the line of the refusal.

abbrev pub or_told : Result ℕ Fault → ℕ → Result ℕ Fault
or_told (Ok n) room = Ok n
or_told (Err f) room = tell_answer f room

abbrev pub or_told_into : Result ℕ Fault → Rules → List ℕ → List ℕ
or_told_into (Ok n) R old = text_of R ++ drop (length (text_of R)) old
or_told_into (Err f) R old = tell_into f old
