-- What a judge knows: the rules, the answer, and what is marked so far.
use Rattle.std.specs.Prelude.{ℕ, Bool, ℤ, Option}
use Rattle.std.specs.List.{list_any}
use Rattle.book.specs.Rules.{Rule, Rules, rule_at}
use Rattle.sheet.specs.declared.judge.Judge.{Judge}
use Rattle.sheet.specs.Lists.{passes}
use Rattle.sheet.specs.Marks.{Atoms, Marks}
use Rattle.sheet.specs.Kept.{flagged, marking}
use Rattle.sheet.specs.Verdicts.{Verdict, reason_verdict, verdict}
use Rattle.sheet.specs.declared.proposal.Reason.{Reason}
use Rattle.sheet.specs.declared.proposal.Proposal.{Proposal}

-- given what a book of its kind means
abbrev pub rules_of : {B : Type 0} → (B → Rules) → Judge B → Rules
rules_of meaning judge = meaning judge.book.now

abbrev pub rule_of : {B : Type 0} → (B → Rules) → Judge B → ℕ → Option Rule
rule_of meaning judge rule = rule_at (rules_of meaning judge) rule

abbrev pub answer_of : {B : Type 0} → Judge B → Atoms
answer_of judge = flagged judge.answer.now

abbrev pub marks_of : {B : Type 0} → Judge B → Marks
marks_of judge = marking judge.marks.now

-- the rule is there, and an atom of its head, or a literal of its body, passes the test
unfoldable pub some_head : (ℕ → Bool) → Option Rule → Bool
some_head test found = passes (λ ρ. list_any test ρ.head) found

unfoldable pub some_literal : (ℤ → Bool) → Option Rule → Bool
some_literal test found = passes (λ ρ. list_any test ρ.body) found

-- what it says of a reason for an atom, and of a proposal
abbrev pub reason_judged : {B : Type 0} → (B → Rules) → Judge B → ℕ → Reason → Verdict
reason_judged meaning judge p w = reason_verdict (rules_of meaning judge) (answer_of judge) (marks_of judge) p w

abbrev pub judged : {B : Type 0} → (B → Rules) → Judge B → Proposal → Verdict
judged meaning judge P = verdict (rules_of meaning judge) (answer_of judge) (marks_of judge) P
