use Rattle.std.proofs.Common.{arith}
use Rattle.reader.proofs.Turns.{too_many}
use Rattle.reader.proofs.survey.survey.Goals as goal

pub returns-then-not-is_kept : goal.returns-then-not-is_kept
returns-then-not-is_kept c = grind (arith, too_many)
