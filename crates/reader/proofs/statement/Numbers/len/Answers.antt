use Rattle.std.proofs.Common.{sym}
use Rattle.reader.proofs.Tallies.{numbers_count, count_short}
use Rattle.reader.proofs.statement.Numbers.len.Goals as goal

pub returns : goal.returns
returns c = record { len = sym (numbers_count c.args.self.now); short = count_short c.args.self.now }
