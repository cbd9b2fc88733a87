use Rattle.std.proofs.Common.{sym, ap, ◌∙◌}
use Rattle.reader.specs.Fill.{with_name, with_names}
use Rattle.reader.specs.Seen.{meant, statements_left}
use Rattle.reader.specs.Tables.{table}
use Rattle.reader.proofs.Cases.{no_name}
use Rattle.reader.proofs.names.NameTable.fill.Goals as goal

pub loop-statement-preserved-in-Output : goal.loop-statement-preserved-in-Output
unfolding with_names
loop-statement-preserved-in-Output c =
    let N = table c.loop-statement.self in
    let ss = statements_left c.next.new.self in
    let before = c.loop-statement.invariant.2 in
    let same = c.put.ensures.same in (
      tt,
      tt,
      record { places = same.places ∙ before.places; lengths = same.lengths ∙ before.lengths },
      ap (λ M. with_names M ss) c.put.ensures.names ∙ ap (λ s. with_names (with_name N (meant s)) ss) (sym c.in-Output.is) ∙ ap (with_names N) (sym c.in-Some.ensures.steps) ∙ c.loop-statement.invariant.3,
    )

pub loop-statement-preserved : goal.loop-statement-preserved
unfolding with_names
loop-statement-preserved c =
    let N = table c.loop-statement.self in
    let same = no_name N c.in-Some.statement c.in_default.not-Output in
    (tt, tt, c.loop-statement.invariant.2, ap (λ M. with_names M (statements_left c.next.new.self)) (sym same) ∙ ap (with_names N) (sym c.in-Some.ensures.steps) ∙ c.loop-statement.invariant.3)

pub returns-clause-names : goal.returns-clause-names
unfolding with_names
returns-clause-names c = ap (with_names (table c.loop-statement.self)) (sym c.in-None.ensures.steps.0) ∙ c.loop-statement.invariant.3
