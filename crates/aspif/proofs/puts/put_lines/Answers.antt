use Rattle.std.proofs.Common.{◌+◌, drop, Ok, arith, rules}
use Rattle.std.specs.List.{slice_get}
use Rattle.base.proofs.Sinks.{takes_none, takes_then, takes_refused}
use Rattle.aspif.specs.Texts.{rule_lines}
use Rattle.aspif.specs.Integers.{line_in}
use Rattle.aspif.proofs.Lines.{lines_more, lines_all}
use Rattle.aspif.proofs.puts.put_lines.Goals as goal

pub returns-in_err-print : goal.returns-in_err-print
returns-in_err-print g c =
    let ρs = (g.B.Book.meaning c.args.book.now).rules in
    let i = c.loop-rule.rule in
    c.loop-rule.invariant _ _ (takes_refused _ _ g.S.Sink.laws (line_in (slice_get ρs i)) (rule_lines (drop (i + 1) ρs)) _ (lines_more ρs i (omega arith)) (search rules) (search rules) c.print.ensures)

pub loop-rule-preserved : goal.loop-rule-preserved
loop-rule-preserved g c = λ r t rest.
    let ρs = (g.B.Book.meaning c.args.book.now).rules in
    let i = c.loop-rule.rule in
    c.loop-rule.invariant r t (takes_then _ _ g.S.Sink.laws (line_in (slice_get ρs i)) (rule_lines (drop (i + 1) ρs)) _ (lines_more ρs i (omega arith)) (search rules) c.print.ensures rest)

pub returns : goal.returns
returns g c =
    let ρs = (g.B.Book.meaning c.args.book.now).rules in
    c.loop-rule.invariant (Ok tt) _ (takes_none _ _ g.S.Sink.laws _ _ (lines_all ρs c.loop-rule.rule (omega arith)))
