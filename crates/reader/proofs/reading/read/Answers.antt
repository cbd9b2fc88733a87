use Rattle.std.proofs.Common.{Ok, rules}
use Rattle.reader.specs.Held.{held}
use Rattle.reader.specs.Read.{read_answer}
use Rattle.reader.proofs.Booked.{found_book}
use Rattle.reader.proofs.reading.read.Goals as goal

pub returns-clause-book : goal.returns-clause-book
unfolding read_answer
returns-clause-book c = found_book c.args.text.now (held c.args.lists.now) (Ok c.in_ok-counts.counts) (search rules) (held c.fill.new.self) c.fill.ensures.lists
