use Rattle.std.proofs.Common.{ap}
use Rattle.sheet.specs.View.{view}
use Rattle.sheet.proofs.Law.{sound_reliable}
use Rattle.sheet.proofs.Called.{stays}
use Rattle.sheet.proofs.Keeping.{complete_sound}
use Rattle.sheet.proofs.sheet.Sheet.complete.Goals as goal

pub returns-clause-keeps : goal.returns-clause-keeps
returns-clause-keeps g c =
    let s = c.args.self.now in
    let v = view g.B.Book.meaning s in
    λ k. stays v.rules _ _ (g.B.Book.lawful s.book.now) (ap (λ o. o.1) c.finish.ensures) (complete_sound v.rules v.state k)

pub returns-clause-honest : goal.returns-clause-honest
returns-clause-honest g c =
    let s = c.args.self.now in
    let v = view g.B.Book.meaning s in
    λ k. (sound_reliable v.rules (g.B.Book.lawful s.book.now) v.state k).complete
