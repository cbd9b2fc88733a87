-- What an answer set of a book is.
use Rattle.std.specs.Prelude.{◌≡◌, ℕ, Bool, true, false, not, ◌&&◌, ◌||◌, List}
use Rattle.std.specs.List.{AllByRecursion as Each, list_all, list_any}
use Rattle.book.specs.Rules.{Rule, Rules}
use Rattle.book.specs.declared.kind.Kind.{Kind}
use Rattle.book.specs.declared.kind.Kind.TheVariants.{Plain, Choice}
use Rattle.sheet.specs.Marks.{Atoms}
use Rattle.sheet.specs.Bodies.{body_true, true_under}

-- a plain rule is broken if its body is true under A and none of its head atoms is in A; a choice rule never is

abbrev pub head_broken : Atoms → Kind → List ℕ → Bool
head_broken A Plain head = not (list_any A head)
head_broken A Choice head = false

abbrev pub broken : Atoms → Rule → Bool
broken A ρ = true_under A ρ && head_broken A ρ.kind ρ.head

-- a part M of A keeps a rule if the body is not true, positive literals read in M and negative ones in A; or else
-- a plain rule, if its head atom is in M; a choice rule, if all its head atoms that are in A are in M

abbrev pub head_kept : Atoms → Atoms → Kind → List ℕ → Bool
head_kept M A Plain head = list_any M head
head_kept M A Choice head = list_all (λ a. not (A a) || M a) head

abbrev pub keeps : Atoms → Atoms → Rule → Bool
keeps M A ρ = not (body_true M A ρ) || head_kept M A ρ.kind ρ.head

-- M is a part of A, and an atom of A is missing in it
pub record Smaller (M A : Atoms) : Type 0 where
  pub part : (a : ℕ) → M a ≡ true → A a ≡ true
  pub missing : ℕ
  pub inside : A missing ≡ true
  pub absent : M missing ≡ false

abbrev pub Unbroken : Rules → Atoms → Type 0
Unbroken R A = Each (λ ρ. broken A ρ ≡ false) R.rules

abbrev pub KeepsAll : Rules → Atoms → Atoms → Type 0
KeepsAll R M A = Each (λ ρ. keeps M A ρ ≡ true) R.rules

pub record AnswerSet (R : Rules) (A : Atoms) : Type 0 where
  pub unbroken : Unbroken R A
  pub smallest : (M : Atoms) → Smaller M A → KeepsAll R M A → ⊥
