use Rattle.std.proofs.Common.{drop, Result}
use Rattle.base.specs.Sinks.{Takes}
use Rattle.base.specs.declared.short.TooShort.{TooShort}
use Rattle.aspif.specs.Texts.{rule_lines}
use Rattle.aspif.proofs.puts.put_lines.Given as goal

-- whatever is taken from here on for the rules that are left is taken from the first on for all
abbrev pub invariant-loop-rule : goal.invariant-loop-rule
invariant-loop-rule g l =
    let ρs = (g.B.Book.meaning l.book).rules in
    (r : Result (Unit {0}) TooShort) (t : _) → Takes g.S.Sink.fits g.S.Sink.after l.sink (rule_lines (drop l.rule ρs)) r t → Takes g.S.Sink.fits g.S.Sink.after l.initial.sink (rule_lines ρs) r t
