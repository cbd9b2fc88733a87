use Rattle.std.proofs.Common.{ℕ, not, length, rules, sym, refl, ◌∙◌, arith}
use Rattle.base.proofs.Found.{least_from_find}
use Rattle.base.proofs.Search.{least_le}
use Rattle.numbers.specs.Numbers.{sound_at}
use Rattle.numbers.proofs.lists.RuleLists.first_faulty.Goals as goal

-- the rule at 2048 is not sound, so what is found stands there or before
pub map-requires : goal.map-requires
map-requires c = λ x e y z.
    let L = c.args.self.now in
    let test = λ (i : ℕ). not (sound_at L i) in
    let found = least_from_find test (length L.starts.now) _ _ _ c.find.ensures.ran (λ i b q k. search rules) in
    let few = least_le test 2048 refl (length L.starts.now) x (sym e ∙ found) in
    omega arith

pub returns : goal.returns
returns c =
    let L = c.args.self.now in
    let found = least_from_find (λ i. not (sound_at L i)) (length L.starts.now) _ _ _ c.find.ensures.ran (λ x b q k. search rules) in
    grind arith
