use Rattle.std.proofs.Common.{◌≡◌, map, take}
use Rattle.sheet.specs.Kept.{mark_assumed}
use Rattle.sheet.proofs.flags.put_assumed.Given as goal

abbrev pub invariant-loop-atom : goal.invariant-loop-atom
invariant-loop-atom l = take l.atom l.marks ≡ map mark_assumed (take l.atom l.assumed)
