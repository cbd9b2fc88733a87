-- Why a proposal is refused: the first test that it does not pass, with its place.
use Rattle.std.specs.Prelude.{ℕ, Bool, cond, not, ◌&&◌, length, Some, None, Ok, Err, Option, Result}
use Rattle.base.specs.Search.{least}
use Rattle.book.specs.Rules.{Rule, Rules, rule_at}
use Rattle.sheet.specs.declared.error.SheetError.{SheetError}
use Rattle.sheet.specs.declared.error.SheetError.TheVariants.{UnknownAtom, AlreadyMarked, WrongSide, UnsuitableRule, MissingGround}
use Rattle.sheet.specs.declared.proposal.Reason.{Reason}
use Rattle.sheet.specs.declared.proposal.Reason.TheVariants.{Support, Lack, Required}
use Rattle.sheet.specs.declared.proposal.Proposal.{Proposal}
use Rattle.sheet.specs.Lists.{has, passes}
use Rattle.sheet.specs.Marks.{Atoms, Marks, is_atom, is_unmarked}
use Rattle.sheet.specs.Bodies.{body_fails, in_body, first_missing, first_missing_but}
use Rattle.sheet.specs.Allowed.{is_constraint}

-- no objection, or a refusal
abbrev pub Verdict : Type 0
Verdict = Result (Unit {0}) SheetError

-- the rule has the atom in its head
abbrev pub fits_support : ℕ → Rule → Bool
fits_support p ρ = has ρ.head p

-- the rule is a constraint with the atom positive in its body
abbrev pub fits_required : ℕ → Rule → Bool
fits_required p ρ = is_constraint ρ && in_body p ρ

-- the rule has the atom in its head, and no literal of its body fails
abbrev pub unfailing : Marks → ℕ → Rule → Bool
unfailing m p ρ = has ρ.head p && not (body_fails m ρ)

abbrev pub unfailing_at : Rules → Marks → ℕ → ℕ → Bool
unfailing_at R m p rule = passes (unfailing m p) (rule_at R rule)

unfoldable pub first_unfailing : Rules → Marks → ℕ → Option ℕ
first_unfailing R m p = least (unfailing_at R m p) (length R.rules)

abbrev pub unless_at : Option ℕ → (ℕ → SheetError) → Verdict
unless_at None refusal = Ok tt
unless_at (Some place) refusal = Err (refusal place)

-- the rule is there and fits the atom, and nothing is missing in its body
abbrev pub rule_verdict : ℕ → (Rule → Bool) → (Option Rule → Option ℕ) → Option Rule → Verdict
rule_verdict rule fits missing found = cond (not (passes fits found)) (Err (UnsuitableRule rule)) (unless_at (missing found) (MissingGround rule))

-- support is for atoms in the answer, the other reasons are for atoms outside it
abbrev pub reason_verdict : Rules → Atoms → Marks → ℕ → Reason → Verdict
reason_verdict R A m p (Support rule) = cond (not (A p)) (Err WrongSide) (rule_verdict rule (fits_support p) (first_missing m) (rule_at R rule))
reason_verdict R A m p Lack = cond (A p) (Err WrongSide) (unless_at (first_unfailing R m p) (λ rule. MissingGround rule 0))
reason_verdict R A m p (Required rule) = cond (A p) (Err WrongSide) (rule_verdict rule (fits_required p) (first_missing_but p m) (rule_at R rule))

unfoldable pub verdict : Rules → Atoms → Marks → Proposal → Verdict
verdict R A m P =
    cond (not (is_atom R P.atom)) (Err (UnknownAtom 0))
    (cond (not (is_unmarked (m P.atom))) (Err AlreadyMarked)
    (reason_verdict R A m P.atom P.reason))
