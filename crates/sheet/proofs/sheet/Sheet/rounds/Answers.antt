use Rattle.std.proofs.Common.{arith}
use Rattle.sheet.specs.View.{view}
use Rattle.sheet.proofs.Sweeps.{rounds_stop, rounds_on}
use Rattle.sheet.proofs.sheet.Sheet.rounds.Goals as goal

pub returns-then-len-before : goal.returns-then-len-before
returns-then-len-before g c =
    rounds_stop c.args.most c.loop-turn._turn (view g.B.Book.meaning c.loop-turn.self) _ c.loop-turn.invariant (omega arith) _ c.round.ensures
    (omega (arith, c.round.new.self.entries.ok, c.loop-turn.self.entries.ok))

pub loop-turn-preserved : goal.loop-turn-preserved
loop-turn-preserved g c =
    rounds_on c.args.most c.loop-turn._turn (view g.B.Book.meaning c.loop-turn.self) _ c.loop-turn.invariant (omega arith) _ c.round.ensures
    (λ e. c.if-len-before.false (omega (arith, e, c.round.new.self.entries.ok, c.loop-turn.self.entries.ok)))
