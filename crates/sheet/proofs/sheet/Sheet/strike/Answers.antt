use Rattle.std.proofs.Common.{ap}
use Rattle.sheet.specs.View.{view}
use Rattle.sheet.proofs.Striking.{counts_the_struck}
use Rattle.sheet.proofs.Called.{stays}
use Rattle.sheet.proofs.Keeping.{strike_sound}
use Rattle.sheet.proofs.sheet.Sheet.strike.Goals as goal

pub returns-clause-keeps : goal.returns-clause-keeps
returns-clause-keeps g c =
    let s = c.args.self.now in
    let v = view g.B.Book.meaning s in
    λ k. stays v.rules _ _ (g.B.Book.lawful s.book.now) (ap (λ o. o.1) c.take_off.ensures) (strike_sound v.rules v.state k c.args.atom)

pub returns-clause-counts : goal.returns-clause-counts
returns-clause-counts g c = let v = view g.B.Book.meaning c.args.self.now in counts_the_struck v.rules v.state c.args.atom
