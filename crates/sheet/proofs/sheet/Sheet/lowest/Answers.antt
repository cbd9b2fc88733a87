use Rattle.std.proofs.Common.{◌≡◌, rules, ap, ◌∙◌}
use Rattle.std.specs.Option.{option_map}
use Rattle.base.specs.Search.{least}
use Rattle.base.proofs.Found.{least_from_find}
use Rattle.sheet.specs.Complete.{admits_by, lowest}
use Rattle.sheet.specs.View.{view}
use Rattle.sheet.proofs.sheet.Sheet.lowest.Goals as goal

pub returns : goal.returns
unfolding lowest
returns g c = λ kind makes.
    let v = view g.B.Book.meaning c.args.self.now in
    let first = least_from_find (admits_by v.rules v.state c.args.atom kind) _ _ _ _ c.find.ensures.ran (λ rule b q k. search (rules, makes)) ∙ ap (least _) c.rules.ensures in
    let made : c.map.result ≡ option_map kind c.find.result = search (rules, makes) in
    made ∙ ap (option_map kind) first
