use Rattle.std.proofs.Common.{◌≡◌, ◌-◌}
use Rattle.sheet.specs.Complete.{rounds}
use Rattle.sheet.specs.View.{view, changing}
use Rattle.sheet.proofs.sheet.Sheet.rounds.Given as goal

abbrev pub invariant-loop-turn : goal.invariant-loop-turn
invariant-loop-turn g l = changing (λ R s. rounds R (l.most - l._turn) s) (view g.B.Book.meaning l.self) ≡ changing (λ R s. rounds R l.most s) (view g.B.Book.meaning l.initial.self)
