use Rattle.std.proofs.Common.{pos, ◌∷◌, ap, sym, subst, rules}
use Rattle.base.specs.Sinks.{Takes}
use Rattle.base.proofs.Sinks.{takes_none}
use Rattle.book.specs.Encoding.{head_type}
use Rattle.aspif.specs.Integers.{heads_in, rule_of}
use Rattle.aspif.specs.Texts.{spaced}
use Rattle.aspif.proofs.Lines.{head_parts, no_head, no_kind}
use Rattle.aspif.proofs.rules.RuleOf.put_head.Goals as goal

pub returns-in_default : goal.returns-in_default
unfolding spaced
returns-in_default g c =
    let o = rule_of g.B.Book.meaning c.args.self.now in
    takes_none _ _ g.S.Sink.laws _ _ (ap spaced (no_head o (search rules)))

pub returns-in_default-2 : goal.returns-in_default-2
unfolding spaced
returns-in_default-2 g c =
    let o = rule_of g.B.Book.meaning c.args.self.now in
    takes_none _ _ g.S.Sink.laws _ _ (ap spaced (no_kind o (search rules)))

pub returns : goal.returns
returns g c =
    let o = rule_of g.B.Book.meaning c.args.self.now in
    let kind = c.in-Some-Some.kind in
    let size = c.in-Some-Some.size in
    let parts = head_parts o kind size (search rules) (search rules) in
    let all = c.put_part.ensures (heads_in o) parts.0 (λ x y k. search rules) in
    let whole : Takes g.S.Sink.fits g.S.Sink.after c.args.sink.now (spaced (head_type kind ∷ pos size ∷ heads_in o)) c.put_part.result c.put_part.new.sink = search (rules, all) in
    subst (λ zs. Takes g.S.Sink.fits g.S.Sink.after c.args.sink.now (spaced zs) c.put_part.result c.put_part.new.sink) (sym parts.1) whole
