use Rattle.std.proofs.Common.{ap}
use Rattle.sheet.specs.View.{view}
use Rattle.sheet.proofs.Called.{stays}
use Rattle.sheet.proofs.Keeping.{open_sound}
use Rattle.sheet.proofs.sheet.Sheet.open.Goals as goal

pub returns-clause-keeps : goal.returns-clause-keeps
returns-clause-keeps g c =
    let s = c.args.self.now in
    let v = view g.B.Book.meaning s in
    λ k. stays v.rules _ _ (g.B.Book.lawful s.book.now) (ap (λ o. o.1) c.begin.ensures) (open_sound v.rules v.state k c.args.literals.now)
