use Rattle.std.proofs.Common.{◌∙◌, arith, rules}
use Rattle.std.proofs.lemmas.Iterator.Consumers.{YieldsList-at, YieldsList-from_filter, count_from_yields_List}
use Rattle.sheet.proofs.Counts.{counted}
use Rattle.sheet.proofs.Ranges.{YieldsList-from_inclusive}
use Rattle.sheet.proofs.completes.count_passing.Goals as goal

pub returns : goal.returns
returns g c = λ p tells.
    count_from_yields_List c.filter.result _ c.count.ensures.ran
    (YieldsList-from_filter _ p (YieldsList-at c.filter.ensures.source (YieldsList-from_inclusive 1 c.args.atoms c.args.atoms c.new.ensures.start c.new.ensures.end c.new.ensures.exhausted (omega arith))) c.filter.ensures.closure (λ x b q k. search (rules, tells)))
    ∙ counted p c.args.atoms
