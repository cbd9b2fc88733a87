use Rattle.std.proofs.Common.{is_ok, ap}
use Rattle.reader.specs.Fill.{listed}
use Rattle.reader.proofs.Surveyed.{read_again}
use Rattle.reader.proofs.statements.Statements.new.Goals as goal

pub invariant_of-result : goal.invariant_of-result
invariant_of-result c = let v = (read_again c.args.text.now c.requires).1 in record { short = v.short; inside = v.long }

pub invariant_of-result-2 : goal.invariant_of-result-2
invariant_of-result-2 c = record { said = ap is_ok (read_again c.args.text.now c.requires).1.saying }

pub returns : goal.returns
returns c = ap listed (read_again c.args.text.now c.requires).1.saying
