use Rattle.std.proofs.Common.{length, ◌∙◌, rules}
use Rattle.std.proofs.lemmas.Iterator.{YieldsList-from_slice, YieldsList-from_zip}
use Rattle.std.proofs.lemmas.Iterator.Search.{any_from_yields_List}
use Rattle.numbers.specs.Numbers.{reaches_past}
use Rattle.numbers.proofs.Spelled.{any_name}
use Rattle.numbers.proofs.lists.Names.any_outside.Goals as goal

pub returns : goal.returns
returns c =
    let N = c.args.self.now in
    any_from_yields_List (λ p. reaches_past (length N.text.now) p.0 p.1) c.any.new.self _ _ c.any.ensures.ran (YieldsList-from_zip (YieldsList-from_slice N.starts.now (search rules)) (YieldsList-from_slice N.lengths.now (search rules))) (λ x b q k. search rules)
    ∙ any_name N c.requires
