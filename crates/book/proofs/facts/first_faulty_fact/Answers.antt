use Rattle.std.proofs.Common.{not, length, rules, sym, refl, arith, ◌∙◌, ℕ}
use Rattle.base.proofs.Found.{least_from_find}
use Rattle.base.proofs.Search.{least_le}
use Rattle.book.specs.Facts.{sound_fact}
use Rattle.book.proofs.facts.first_faulty_fact.Goals as goal

-- the fact at 2048 is not sound, so what is found stands there or before
pub map-requires : goal.map-requires
map-requires c = λ x e y z.
    let test = λ (j : ℕ). not (sound_fact c.args.atoms c.args.facts.now j) in
    let found = least_from_find test (length c.args.facts.now) _ _ _ c.find.ensures.ran (λ i b q k. search rules) in
    let few = least_le test 2048 refl (length c.args.facts.now) x (sym e ∙ found) in
    omega arith

pub returns : goal.returns
returns c =
    let found = least_from_find (λ j. not (sound_fact c.args.atoms c.args.facts.now j)) (length c.args.facts.now) _ _ _ c.find.ensures.ran (λ x b q k. search rules) in
    grind (arith)
