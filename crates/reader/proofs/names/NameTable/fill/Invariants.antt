use Rattle.std.proofs.Common.{◌≡◌}
use Rattle.reader.specs.Fill.{with_names}
use Rattle.reader.specs.Seen.{statements_left}
use Rattle.reader.specs.Tables.{table, SameTable}
use Rattle.reader.proofs.names.NameTable.fill.Given as goal

abbrev pub invariant-loop-statement : goal.invariant-loop-statement
invariant-loop-statement l =
    (goal.iterator-loop-statement).can_next l.statement-iterator
    × (goal.iterator-loop-statement).is_finite l.statement-iterator
    × SameTable l.initial.self l.self
    × (with_names (table l.self) (statements_left l.statement-iterator) ≡ with_names (table l.initial.self) (statements_left l.statements))
