use Rattle.std.proofs.Common.{◌≡◌, length, not, ap, ◌∙◌, rules}
use Rattle.base.specs.Search.{least}
use Rattle.book.specs.Rules.{body_literal}
use Rattle.book.proofs.Bounds.{literal_fits}
use Rattle.sheet.specs.Bodies.{body_of, first_unmet, unmet_at}
use Rattle.sheet.specs.Judges.{rules_of, rule_of}
use Rattle.sheet.proofs.Looking.{body_length}
use Rattle.sheet.proofs.judge.Judge.first_unmet.Goals as goal

pub returns : goal.returns
unfolding first_unmet
returns g c = λ p tells.
    let s = c.args.self.now in
    let found = rule_of g.B.Book.meaning s c.args.rule in
    let fits = literal_fits (rules_of g.B.Book.meaning s) (g.B.Book.lawful s.book.now) c.args.rule in
    let size : c.unwrap_or-size.result ≡ length (body_of found) = search (rules, body_length found) in
    c.first_place.ensures (body_literal found) (λ z. not (p z)) (λ at o k. search rules) (λ at z b e k. search (rules, tells, fits at z e)) ∙ ap (least (unmet_at p found)) size
