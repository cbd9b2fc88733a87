-- What the parts of a text that the code hands on say.
use Rattle.std.specs.Prelude.{ℕ, List, map, length, ℤ, None, Some, Option, unsigned_abs}
use Rattle.book.specs.Rules as rules
use Rattle.reader.specs.Rows.{Row, row_at, row_values}
use Rattle.reader.specs.Statements.{Stmt, rule, output, assumption, skipped}
use Rattle.reader.specs.Lines.{Line, ended, said}
use Rattle.reader.specs.Fill.{said_from, listed}
use Rattle.reader.specs.declared.statement.Numbers.{Numbers}
use Rattle.reader.specs.declared.statement.Rule.{Rule}
use Rattle.reader.specs.declared.statement.Output.{Output}
use Rattle.reader.specs.declared.statement.Statement.{Statement}
use Rattle.reader.specs.declared.statement.Statement.TheVariants as st
use Rattle.reader.specs.declared.statements.Statements.{Statements}

abbrev pub numbers_in : Numbers → List ℤ
numbers_in ns = row_values (row_at ns.items ns.count ns.start.text.now ns.start.at)

abbrev pub rule_meant : Rule → rules.Rule
rule_meant r = record { kind = r.kind; head = map unsigned_abs (numbers_in r.heads); body = numbers_in r.body }

abbrev pub output_meant : Output → Stmt
output_meant o = output o.at o.name.now (numbers_in o.literals)

abbrev pub meant : Statement → Stmt
meant (st.Rule r) = rule (rule_meant r)
meant (st.Output o) = output_meant o
meant (st.Assumption literals) = assumption (numbers_in literals)
meant (st.Skipped kind rest) = skipped kind rest.now

-- what was read, and the place that it was read up to
abbrev pub row_to : Numbers → ℕ → Row
row_to ns next = record { values = numbers_in ns; next = next }

abbrev pub said_to : Statement → ℕ → Line
said_to s next = said (meant s) next

abbrev pub line_to : Option Statement → ℕ → Line
line_to None next = ended next
line_to (Some s) next = said_to s next

-- the statements that an iterator has left
abbrev pub statements_left : Statements → List Stmt
statements_left S = listed (said_from (length S.cursor.text.now) S.cursor.text.now S.cursor.at)
