use Rattle.std.proofs.Common.{sym, ap, ◌∙◌, arith}
use Rattle.reader.specs.Scan.{nothing, counts_of}
use Rattle.reader.proofs.Headings.{over_limit_lem, no_heading, headed, heading_long}
use Rattle.reader.proofs.reading.counts_of.Goals as goal

pub returns-then-text-gt65536 : goal.returns-then-text-gt65536
returns-then-text-gt65536 c = sym (ap (counts_of nothing) (over_limit_lem c.args.text.now c.if-text-gt65536.true))

pub returns-then-not-has_heading : goal.returns-then-not-has_heading
returns-then-not-has_heading c = sym (ap (counts_of nothing) (no_heading c.args.text.now (omega arith) c.if-not-has_heading.ensures))

pub survey-requires : goal.survey-requires
survey-requires c = (heading_long c.args.text.now c.if-not-has_heading.ensures, omega arith)

pub returns : goal.returns
returns c = c.survey.ensures ∙ sym (ap (counts_of nothing) (headed c.args.text.now (omega arith) c.if-not-has_heading.ensures))
