-- The laws of the body tests: all that the other proofs know of a body.
use Rattle.std.proofs.Common.{◌≡◌, ℕ, suc, Bool, true, false, not, ◌↔◌, ℤ, pos, negsuc, Some, None, inl, inr}
use Rattle.std.proofs.lemmas.Bool.{not-true, not-false, not_from_true, not_from_false, or_cases, or_left, or_right}
use Rattle.std.specs.List.{list_all}
use Rattle.base.proofs.Search.{every_all, all_every}
use Rattle.book.specs.Rules.{Rule, LawfulRule, Atom, Literal}
use Rattle.sheet.specs.Marks.{Atoms, Marks, says}
use Rattle.sheet.specs.Bodies.{is_positive, literal_holds, literal_fails, body_holds, body_fails, holds_but, body_holds_but, first_unmet, first_missing, first_missing_but, literal_true, body_true}
use Rattle.sheet.proofs.Members.{every_at, every_from, every_more, some_more, all_in}
use Rattle.sheet.proofs.Searches.{none_at, at_none}
use Rattle.sheet.proofs.Agreement.{Part}

-- more marks keep what held holding and what failed failing
module _ (m n : Marks) (h : Part m n) where
  literal_holds_more : (z : ℤ) → literal_holds m z ≡ true → literal_holds n z ≡ true
  literal_holds_more (pos a) = h a true
  literal_holds_more (negsuc a) = h (suc a) false

  literal_fails_more : (z : ℤ) → literal_fails m z ≡ true → literal_fails n z ≡ true
  literal_fails_more (pos a) = h a false
  literal_fails_more (negsuc a) = h (suc a) true

  holds_but_more : (p : ℕ) (z : ℤ) → holds_but p m z ≡ true → holds_but p n z ≡ true
  holds_but_more p z e = elim (or_cases (is_positive p z) (literal_holds m z) e) [
    | inl same ↦ or_left (is_positive p z) (literal_holds n z) same
    | inr holding ↦ or_right (is_positive p z) (literal_holds n z) (literal_holds_more z holding)
  ]

  module _ (ρ : Rule) where
    pub body_holds_more : body_holds m ρ ≡ true → body_holds n ρ ≡ true
    body_holds_more = every_more (literal_holds m) (literal_holds n) literal_holds_more ρ.body

    pub body_fails_more : body_fails m ρ ≡ true → body_fails n ρ ≡ true
    body_fails_more = some_more (literal_fails m) (literal_fails n) literal_fails_more ρ.body

    pub body_holds_but_more : (p : ℕ) → body_holds_but p m ρ ≡ true → body_holds_but p n ρ ≡ true
    body_holds_but_more p = every_more (holds_but p m) (holds_but p n) (holds_but_more p) ρ.body

-- a body that holds is true, where each atom marked true is in M and none marked false is in A
pub holds_true : (m : Marks) (M A : Atoms) → ((a : ℕ) → says true (m a) ≡ true → M a ≡ true) → ((a : ℕ) → says false (m a) ≡ true → A a ≡ false) →
    (ρ : Rule) → body_holds m ρ ≡ true → body_true M A ρ ≡ true
holds_true m M A h k ρ = every_more (literal_holds m) (literal_true M A) one ρ.body
  where
    one : (z : ℤ) → literal_holds m z ≡ true → literal_true M A z ≡ true
    one (pos a) e = h a e
    one (negsuc a) e = not_from_false (A (suc a)) (k (suc a) e)

-- a body that is true holds, where the atoms marked true are read, and every atom outside A is marked false
pub true_holds : (n : ℕ) (m : Marks) (A : Atoms) → ((a : ℕ) → Atom n a → A a ≡ false → says false (m a) ≡ true) →
    (ρ : Rule) → LawfulRule n ρ → body_true (λ a. says true (m a)) A ρ ≡ true → body_holds m ρ ≡ true
true_holds n m A k ρ l t =
    every_from (literal_holds m) ρ.body
    (λ z j. one z (all_in (Literal n) ρ.body z l.literals j) (every_at (literal_true (λ a. says true (m a)) A) ρ.body z t j))
  where
    one : (z : ℤ) → Literal n z → literal_true (λ a. says true (m a)) A z ≡ true → literal_holds m z ≡ true
    one (pos a) i e = e
    one (negsuc a) i e = k (suc a) i (not-true (A (suc a)) e)

-- more positive atoms keep a body true
pub true_more : (M N A : Atoms) → ((a : ℕ) → M a ≡ true → N a ≡ true) → (ρ : Rule) → body_true M A ρ ≡ true → body_true N A ρ ≡ true
true_more M N A h ρ = every_more (literal_true M A) (literal_true N A) one ρ.body
  where
    one : (z : ℤ) → literal_true M A z ≡ true → literal_true N A z ≡ true
    one (pos a) e = h a e
    one (negsuc a) e = e

-- nothing is missing exactly where all the body passes
module _ (test : ℤ → Bool) (ρ : Rule) where
  all_met : first_unmet test (Some ρ) ≡ None → list_all test ρ.body ≡ true
  unfolding first_unmet
  all_met e = all_every test (λ z. not (test z) ≡ false) (λ z. not-false (test z)) ρ.body (none_at (λ z. not (test z)) ρ.body e)

  none_unmet : list_all test ρ.body ≡ true → first_unmet test (Some ρ) ≡ None
  unfolding first_unmet
  none_unmet e = at_none (λ z. not (test z)) ρ.body (every_all test (λ z. not (test z) ≡ false) (λ z. not_from_true (test z)) ρ.body e)

pub holds_missing : (m : Marks) (ρ : Rule) → (first_missing m (Some ρ) ≡ None) ↔ (body_holds m ρ ≡ true)
holds_missing m ρ = (all_met (literal_holds m) ρ, none_unmet (literal_holds m) ρ)

pub holds_but_missing : (p : ℕ) (m : Marks) (ρ : Rule) → (first_missing_but p m (Some ρ) ≡ None) ↔ (body_holds_but p m ρ ≡ true)
holds_but_missing p m ρ = (all_met (holds_but p m) ρ, none_unmet (holds_but p m) ρ)
