use Rattle.std.proofs.Common.{◌≡◌, drop}
use Rattle.sheet.specs.Kept.{with_positives, with_negatives}
use Rattle.sheet.proofs.flags.put_literals.Given as goal

abbrev pub invariant-loop-literal : goal.invariant-loop-literal
invariant-loop-literal l = (with_positives l.answer (drop l.literal-index l.literals) ≡ with_positives l.initial.answer l.literals) × (with_negatives l.assumed (drop l.literal-index l.literals) ≡ with_negatives l.initial.assumed l.literals)
