use Rattle.std.proofs.Common.{◌≡◌, unwrap_or, is_some, ap, ◌∙◌, rules}
use Rattle.base.specs.Search.{least}
use Rattle.book.specs.Rules.{head_size, head_atom}
use Rattle.sheet.specs.Judges.{rule_of}
use Rattle.sheet.specs.Lists.{passes}
use Rattle.sheet.proofs.Looking.{any_head_place}
use Rattle.sheet.proofs.judge.Judge.any_head.Goals as goal

pub returns : goal.returns
returns g c = λ p tells.
    let found = rule_of g.B.Book.meaning c.args.self.now c.args.rule in
    let size : c.unwrap_or-size.result ≡ unwrap_or (head_size found) 0 = search rules in
    let first = c.first_place.ensures (head_atom found) p (λ at o k. search rules) (λ at a b e k. tells a b k) in
    c.is_some.ensures ∙ ap is_some (first ∙ ap (least (λ at. passes p (head_atom found at))) size) ∙ any_head_place p found
