use Rattle.std.proofs.Common.{ap}
use Rattle.sheet.specs.View.{view}
use Rattle.sheet.proofs.Entering.{takes_the_allowed}
use Rattle.sheet.proofs.Called.{stays}
use Rattle.sheet.proofs.Keeping.{enter_sound}
use Rattle.sheet.proofs.sheet.Sheet.enter.Goals as goal

pub returns-clause-keeps : goal.returns-clause-keeps
returns-clause-keeps g c =
    let s = c.args.self.now in
    let v = view g.B.Book.meaning s in
    λ k. stays v.rules _ _ (g.B.Book.lawful s.book.now) (ap (λ o. o.1) c.take.ensures) (enter_sound v.rules v.state k c.args.proposal)

pub returns-clause-exactly : goal.returns-clause-exactly
returns-clause-exactly g c = let v = view g.B.Book.meaning c.args.self.now in takes_the_allowed v.rules v.state c.args.proposal
