use Rattle.std.proofs.Common.{refl, rules}
use Rattle.base.proofs.Sinks.{takes_then, takes_refused}
use Rattle.aspif.specs.Texts.{heading, closing, rule_lines}
use Rattle.aspif.proofs.puts.ProgramTextPrinted.print.Goals as goal

pub returns-in_err-put : goal.returns-in_err-put
unfolding heading
returns-in_err-put g c = takes_refused _ _ g.S.Sink.laws heading _ _ refl (search rules) (search rules) c.put.ensures

pub returns-in_err-put_lines : goal.returns-in_err-put_lines
unfolding heading
returns-in_err-put_lines g c =
    let lines = rule_lines (g.B.Book.meaning c.args.self.now.book.now).rules in
    takes_then _ _ g.S.Sink.laws heading _ _ refl (search rules) c.put.ensures
    (takes_refused _ _ g.S.Sink.laws lines closing _ refl (search rules) (search rules) c.put_lines.ensures)

pub returns : goal.returns
unfolding heading closing
returns g c =
    let lines = rule_lines (g.B.Book.meaning c.args.self.now.book.now).rules in
    takes_then _ _ g.S.Sink.laws heading _ _ refl (search rules) c.put.ensures
    (takes_then _ _ g.S.Sink.laws lines closing _ refl (search rules) c.put_lines.ensures c.put-2.ensures)
