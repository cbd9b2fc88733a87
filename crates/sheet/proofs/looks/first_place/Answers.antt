use Rattle.std.proofs.Common.{rules}
use Rattle.base.proofs.Found.{least_from_find}
use Rattle.sheet.specs.Lists.{passes}
use Rattle.sheet.proofs.looks.first_place.Goals as goal

pub returns : goal.returns
returns g c = λ found p finds tells. least_from_find (λ at. passes p (found at)) _ _ _ _ c.find.ensures.ran (λ at b q k. (search (rules, finds, tells), search rules))
