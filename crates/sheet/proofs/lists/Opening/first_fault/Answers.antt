use Rattle.std.proofs.Common.{length, sym, ◌∙◌, arith, rules}
use Rattle.base.proofs.Found.{least_from_find}
use Rattle.sheet.specs.Open.{faulty_at, first_fault}
use Rattle.sheet.proofs.Opening.{fault_early}
use Rattle.sheet.proofs.lists.Opening.first_fault.Goals as goal

-- what is found stands so early that its place fits
pub map-requires : goal.map-requires
unfolding first_fault
map-requires g c = λ at e y z.
    let R = g.B.Book.meaning c.args.self.now.book.now in
    let zs = c.args.self.now.literals.now in
    let found = least_from_find (faulty_at R zs) (length zs) _ _ _ c.find.ensures.ran (λ i b q k. search rules) in
    omega (arith, fault_early R zs at (sym found ∙ e), (g.B.Book.lawful c.args.self.now.book.now).few_atoms)

pub returns : goal.returns
unfolding first_fault
returns g c =
    let R = g.B.Book.meaning c.args.self.now.book.now in
    let zs = c.args.self.now.literals.now in
    let found = least_from_find (faulty_at R zs) (length zs) _ _ _ c.find.ensures.ran (λ i b q k. search rules) in
    grind arith
