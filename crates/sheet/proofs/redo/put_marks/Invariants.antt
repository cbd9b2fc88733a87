use Rattle.std.proofs.Common.{◌≡◌, drop}
use Rattle.sheet.specs.Kept.{with_marks}
use Rattle.sheet.proofs.redo.put_marks.Given as goal

abbrev pub invariant-loop-entry : goal.invariant-loop-entry
invariant-loop-entry l = with_marks l.marks (drop l.entry-index l.entries) ≡ with_marks l.initial.marks l.entries
