use Rattle.std.proofs.Common.{◌≡◌, ◌-◌, ap, ◌∙◌, arith}
use Rattle.sheet.specs.Complete.{sweep, round}
use Rattle.sheet.specs.View.{view, changing}
use Rattle.sheet.proofs.Sweeps.{sweep_more}
use Rattle.sheet.proofs.sheet.Sheet.round.Goals as goal

pub returns : goal.returns
unfolding round
returns g c =
    let v = view g.B.Book.meaning c.args.self.now in
    let all : c.loop-atom.atom - 1 ≡ v.rules.atoms = omega (arith, c.atoms-atom-end.ensures, c.loop-atom.invariant.1) in
    c.loop-atom.invariant.0 ∙ ap (λ n. changing (λ R s. sweep R s n) v) all

pub returns-2 : goal.returns-2
unfolding round
returns-2 g c =
    let v = view g.B.Book.meaning c.args.self.now in
    let last : c.loop-atom.atom ≡ v.rules.atoms = omega (arith, c.atoms-atom-end.ensures) in
    sweep_more v _ _ c.loop-atom.atom (omega arith) c.step.ensures c.loop-atom.invariant.0 ∙ ap (λ n. changing (λ R s. sweep R s n) v) last
