use Rattle.std.proofs.Common.{rules, ap, ◌∙◌}
use Rattle.base.specs.Search.{least}
use Rattle.base.proofs.Found.{least_from_find}
use Rattle.sheet.specs.Verdicts.{first_unfailing}
use Rattle.sheet.proofs.judge.Judge.first_unfailing.Goals as goal

pub returns : goal.returns
unfolding first_unfailing
returns g c = least_from_find _ _ _ _ _ c.find.ensures.ran (λ at b q k. search rules) ∙ ap (least _) c.rules.ensures
