use Rattle.std.proofs.Common.{◌≡◌, unwrap_or, is_some, ap, ◌∙◌, rules}
use Rattle.base.specs.Search.{least}
use Rattle.book.specs.Rules.{body_size, body_literal}
use Rattle.book.proofs.Bounds.{literal_fits}
use Rattle.sheet.specs.Judges.{rules_of, rule_of}
use Rattle.sheet.specs.Lists.{passes}
use Rattle.sheet.proofs.Looking.{any_literal_place}
use Rattle.sheet.proofs.judge.Judge.any_literal.Goals as goal

pub returns : goal.returns
returns g c = λ p tells.
    let s = c.args.self.now in
    let found = rule_of g.B.Book.meaning s c.args.rule in
    let fits = literal_fits (rules_of g.B.Book.meaning s) (g.B.Book.lawful s.book.now) c.args.rule in
    let size : c.unwrap_or-size.result ≡ unwrap_or (body_size found) 0 = search rules in
    let first = c.first_place.ensures (body_literal found) p (λ at o k. search rules) (λ at z b e k. tells z b (fits at z e) k) in
    c.is_some.ensures ∙ ap is_some (first ∙ ap (least (λ at. passes p (body_literal found at))) size) ∙ any_literal_place p found
