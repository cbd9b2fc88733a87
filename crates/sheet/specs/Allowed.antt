-- When a proposal is allowed, and what a grounded list of proposals is.
use Rattle.std.specs.Prelude.{◌≡◌, ℕ, Bool, true, false, List, [], ◌∷◌, Some, None, Option}
use Rattle.std.specs.List.{AllByRecursion as Each}
use Rattle.book.specs.Rules.{Rule, Rules, rule_at, Atom}
use Rattle.book.specs.declared.kind.Kind.{Kind}
use Rattle.book.specs.declared.kind.Kind.TheVariants.{Plain, Choice}
use Rattle.sheet.specs.declared.mark.Mark.TheVariants.{Unmarked}
use Rattle.sheet.specs.declared.proposal.Reason.{Reason}
use Rattle.sheet.specs.declared.proposal.Reason.TheVariants.{Support, Lack, Required}
use Rattle.sheet.specs.declared.proposal.Proposal.{Proposal}
use Rattle.sheet.specs.Lists.{has}
use Rattle.sheet.specs.Marks.{Atoms, Marks, marked}
use Rattle.sheet.specs.Bodies.{body_holds, body_fails, body_holds_but, in_body}

-- a plain rule without a head; a choice rule is none, whatever its head
abbrev pub headless : Kind → List ℕ → Bool
headless Plain [] = true
headless Plain (a ∷ head) = false
headless Choice head = false

abbrev pub is_constraint : Rule → Bool
is_constraint ρ = headless ρ.kind ρ.head

-- Support by a rule: the atom is in the answer and in the head, and every body literal holds.
pub record Supports (A : Atoms) (m : Marks) (p : ℕ) (ρ : Rule) : Type 0 where
  pub inside : A p ≡ true
  pub head : has ρ.head p ≡ true
  pub body : body_holds m ρ ≡ true

-- Lack of support: the atom is outside the answer, and every rule with it in the head has a body literal that fails.
pub record Unsupported (R : Rules) (A : Atoms) (m : Marks) (p : ℕ) : Type 0 where
  pub outside : A p ≡ false
  pub failing : Each (λ ρ. has ρ.head p ≡ true → body_fails m ρ ≡ true) R.rules

-- Required by a rule: the atom is outside the answer, the rule is a constraint with it positive in the body, and every
-- literal there other than it holds.
pub record Requires (A : Atoms) (m : Marks) (p : ℕ) (ρ : Rule) : Type 0 where
  pub outside : A p ≡ false
  pub constraint : is_constraint ρ ≡ true
  pub positive : in_body p ρ ≡ true
  pub others : body_holds_but p m ρ ≡ true

-- there is a rule, and this holds of it
abbrev pub There : Option Rule → (Rule → Type 0) → Type 0
There None P = ⊥
There (Some ρ) P = P ρ

abbrev pub Grounds : Rules → Atoms → Marks → ℕ → Reason → Type 0
Grounds R A m p (Support rule) = There (rule_at R rule) (Supports A m p)
Grounds R A m p Lack = Unsupported R A m p
Grounds R A m p (Required rule) = There (rule_at R rule) (Requires A m p)

-- Allowed: the atom is one of the book, it is unmarked, and the reason has its grounds.
pub record Allowed (R : Rules) (A : Atoms) (m : Marks) (P : Proposal) : Type 0 where
  pub atom : Atom R.atoms P.atom
  pub unmarked : m P.atom ≡ Unmarked
  pub grounds : Grounds R A m P.atom P.reason

-- each proposal is allowed when exactly what m marks and the proposals before it are marked
abbrev pub Grounded : Rules → Atoms → Marks → List Proposal → Type 0
Grounded R A m [] = Unit {0}
Grounded R A m (P ∷ Ps) = Allowed R A m P × Grounded R A (marked m P) Ps
