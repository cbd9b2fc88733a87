use Rattle.std.proofs.Common.{◌+◌, take, drop}
use Rattle.sheet.specs.Enter.{enter_all}
use Rattle.sheet.specs.Kept.{open_with}
use Rattle.sheet.proofs.Redone.{Inv}
use Rattle.sheet.proofs.redo.redo.Given as goal

abbrev pub invariant-loop-at : goal.invariant-loop-at
invariant-loop-at g l =
    let R = g.B.Book.meaning l.book in
    Inv R l.answer l.assumed (enter_all R (open_with l.answer l.assumed (take l.from l.initial.entries)) (drop (l.from + 1) l.initial.entries)) l.to l.at l.marks l.entries
