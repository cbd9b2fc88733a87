use Rattle.std.proofs.Common.{◌≡◌, ◌+◌, ◌-◌, ◌≤◌}
use Rattle.sheet.specs.Complete.{sweep}
use Rattle.sheet.specs.View.{view, changing}
use Rattle.sheet.proofs.sheet.Sheet.round.Given as goal

abbrev pub invariant-loop-atom : goal.invariant-loop-atom
invariant-loop-atom g l = (view g.B.Book.meaning l.self ≡ changing (λ R s. sweep R s (l.atom - 1)) (view g.B.Book.meaning l.initial.self)) × (l.atom ≤ l.atom-end + 1)
