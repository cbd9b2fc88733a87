use Rattle.book.proofs.Facted.{no_literal}
use Rattle.book.proofs.facts.FactBookBook.literal.Goals as goal

pub returns : goal.returns
returns c = no_literal c.args.self.now.facts.now c.args._rule c.args._at
