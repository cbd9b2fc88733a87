use Rattle.std.proofs.Common.{pos, ◌∷◌, ap, sym, subst, rules}
use Rattle.base.specs.Sinks.{Takes}
use Rattle.base.proofs.Sinks.{takes_none}
use Rattle.aspif.specs.Integers.{literals_in, rule_of}
use Rattle.aspif.specs.Texts.{spaced}
use Rattle.aspif.proofs.Lines.{body_parts, no_body}
use Rattle.aspif.proofs.rules.RuleOf.put_body.Goals as goal

pub returns-in_default : goal.returns-in_default
unfolding spaced
returns-in_default g c =
    let o = rule_of g.B.Book.meaning c.args.self.now in
    takes_none _ _ g.S.Sink.laws _ _ (ap spaced (no_body o (search rules)))

pub returns : goal.returns
returns g c =
    let o = rule_of g.B.Book.meaning c.args.self.now in
    let size = c.in-Some.size in
    let parts = body_parts o size (search rules) in
    let all = c.put_part.ensures (literals_in o) parts.0 (λ x y k. search rules) in
    let whole : Takes g.S.Sink.fits g.S.Sink.after c.args.sink.now (spaced (pos 0 ∷ pos size ∷ literals_in o)) c.put_part.result c.put_part.new.sink = search (rules, all) in
    subst (λ zs. Takes g.S.Sink.fits g.S.Sink.after c.args.sink.now (spaced zs) c.put_part.result c.put_part.new.sink) (sym parts.1) whole
