use Rattle.std.proofs.Common.{map, nat_abs, sym, ap, ◌∙◌, unwrap_or, rules}
use Rattle.std.proofs.lemmas.Iterator.{YieldsList-from_map}
use Rattle.std.proofs.lemmas.Iterator.Adapters.{option_map_id}
use Rattle.std.proofs.lemmas.Iterator.Consumers.{YieldsList-from_first, YieldsList-at, max_from_yields_List}
use Rattle.reader.specs.Seen.{numbers_in}
use Rattle.reader.specs.declared.values.Values.{Values}
use Rattle.reader.proofs.RowValues.{top_greatest}
use Rattle.reader.proofs.statement.Numbers.greatest.Goals as goal

pub returns : goal.returns
returns c =
    let zs = numbers_in c.args.self.now in
    c.unwrap_or.ensures
    ∙ ap (λ o. unwrap_or o 0) (sym (option_map_id _) ∙ max_from_yields_List c.map.result _ c.max.ensures.ran (YieldsList-from_map _ nat_abs (YieldsList-at c.map.ensures.source (YieldsList-from_first (λ x. x) (λ (v : Values). numbers_in v.rest) zs c.values.ensures)) c.map.ensures.closure (λ x r q k. search rules)))
    ∙ top_greatest (map nat_abs zs)
