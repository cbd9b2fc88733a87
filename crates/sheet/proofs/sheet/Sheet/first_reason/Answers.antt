use Rattle.std.proofs.Common.{rules}
use Rattle.sheet.specs.declared.proposal.Reason.TheVariants.{Support, Required}
use Rattle.sheet.specs.Complete.{first_reason}
use Rattle.sheet.proofs.sheet.Sheet.first_reason.Goals as goal

pub returns-in-Some : goal.returns-in-Some
unfolding first_reason
returns-in-Some g c = let support = c.lowest.ensures Support (λ rule w e. e) in search rules

pub returns-then-admits : goal.returns-then-admits
unfolding first_reason
returns-then-admits g c = let support = c.lowest.ensures Support (λ rule w e. e) in search rules

pub returns : goal.returns
unfolding first_reason
returns g c =
    let support = c.lowest.ensures Support (λ rule w e. e) in
    let required = c.lowest-2.ensures Required (λ rule w e. e) in
    search rules
