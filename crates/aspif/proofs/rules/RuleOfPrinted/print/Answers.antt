use Rattle.std.proofs.Common.{codes, refl, rules}
use Rattle.base.proofs.Sinks.{takes_then, takes_refused}
use Rattle.aspif.specs.Texts.{spaced}
use Rattle.aspif.specs.Integers.{head_in, body_in, rule_of}
use Rattle.aspif.proofs.Lines.{line_parts}
use Rattle.aspif.proofs.rules.RuleOfPrinted.print.Goals as goal

pub returns-in_err-put : goal.returns-in_err-put
returns-in_err-put g c =
    let o = rule_of g.B.Book.meaning c.args.self.now in
    takes_refused _ _ g.S.Sink.laws (codes "1") _ _ (line_parts o) (search rules) (search rules) c.put.ensures

pub returns-in_err-put_head : goal.returns-in_err-put_head
returns-in_err-put_head g c =
    let o = rule_of g.B.Book.meaning c.args.self.now in
    takes_then _ _ g.S.Sink.laws (codes "1") _ _ (line_parts o) (search rules) c.put.ensures
    (takes_refused _ _ g.S.Sink.laws (spaced (head_in o)) _ _ refl (search rules) (search rules) c.put_head.ensures)

pub returns-in_err-put_body : goal.returns-in_err-put_body
returns-in_err-put_body g c =
    let o = rule_of g.B.Book.meaning c.args.self.now in
    takes_then _ _ g.S.Sink.laws (codes "1") _ _ (line_parts o) (search rules) c.put.ensures
    (takes_then _ _ g.S.Sink.laws (spaced (head_in o)) _ _ refl (search rules) c.put_head.ensures
    (takes_refused _ _ g.S.Sink.laws (spaced (body_in o)) (codes "\n") _ refl (search rules) (search rules) c.put_body.ensures))

pub returns : goal.returns
returns g c =
    let o = rule_of g.B.Book.meaning c.args.self.now in
    takes_then _ _ g.S.Sink.laws (codes "1") _ _ (line_parts o) (search rules) c.put.ensures
    (takes_then _ _ g.S.Sink.laws (spaced (head_in o)) _ _ refl (search rules) c.put_head.ensures
    (takes_then _ _ g.S.Sink.laws (spaced (body_in o)) (codes "\n") _ refl (search rules) c.put_body.ensures c.put-2.ensures))
