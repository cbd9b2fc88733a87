-- Marks that are part of others, marks that agree with an answer, and the marks of grounded lists.
use Rattle.std.proofs.Common.{◌≡◌, ℕ, Bool, true, false, cond, eqb, List, [], ◌∷◌, ◌++◌, Some, None, Option, sym, refl, ap, ◌∙◌, inl, inr}
use Rattle.std.proofs.lemmas.Bool.{false≢true, true≢false, not-true, cond_both, cases_Bool, eqb-true, eq-eqb}
use Rattle.book.specs.Rules.{Rule, Rules, rule_at}
use Rattle.sheet.specs.declared.mark.Mark.{Mark}
use Rattle.sheet.specs.declared.mark.Mark.TheVariants.{Unmarked, True, False}
use Rattle.sheet.specs.declared.proposal.Reason.{Reason}
use Rattle.sheet.specs.declared.proposal.Reason.TheVariants.{Support, Lack, Required}
use Rattle.sheet.specs.declared.proposal.Proposal.{Proposal}
use Rattle.sheet.specs.Marks.{Atoms, Marks, is_unmarked, says, claim, mark_for, marked, marked_all}
use Rattle.sheet.specs.Allowed.{Supports, Requires, There, Grounds, Grounded}

-- each mark of m is one of n
abbrev pub Part : Marks → Marks → Type 0
Part m n = (a : ℕ) (b : Bool) → says b (m a) ≡ true → says b (n a) ≡ true

-- each mark says what is so in A
abbrev pub Agrees : Atoms → Marks → Type 0
Agrees A m = (a : ℕ) (b : Bool) → says b (m a) ≡ true → A a ≡ b

pub is_unmarked_lem : (c : Mark) → is_unmarked c ≡ true → c ≡ Unmarked
is_unmarked_lem Unmarked u = refl
is_unmarked_lem True u = absurd (false≢true u)
is_unmarked_lem False u = absurd (false≢true u)

spoken : (c : Mark) → is_unmarked c ≡ false → (b : Bool) × (says b c ≡ true)
spoken Unmarked u = absurd (true≢false u)
spoken True u = (true, refl)
spoken False u = (false, refl)

speaks : (c : Mark) (b : Bool) → says b c ≡ true → is_unmarked c ≡ false
speaks Unmarked b e = absurd (false≢true e)
speaks True b e = refl
speaks False b e = refl

says_claim : (c b : Bool) → says b (mark_for c) ≡ true → b ≡ c
says_claim true b e = e
says_claim false b e = not-true b e

claim_says : (c : Bool) → says c (mark_for c) ≡ true
claim_says true = refl
claim_says false = refl

pub part_marked : (m : Marks) (P : Proposal) → m P.atom ≡ Unmarked → Part m (marked m P)
part_marked m P u a b e =
    cond_both (eqb a P.atom) (mark_for (claim P.reason)) (m a) (λ v. says b v ≡ true)
    (λ q. absurd (false≢true (sym (ap (says b) u) ∙ (rw (eqb-true a P.atom q) at e)))) (λ _. e)

pub part_both : (m n : Marks) (P : Proposal) → Part m n → Part (marked m P) (marked n P)
part_both m n P h a b =
    elim (eqb a P.atom) as (λ t. says b (cond t (mark_for (claim P.reason)) (m a)) ≡ true → says b (cond t (mark_for (claim P.reason)) (n a)) ≡ true)
    [ true ↦ λ e. e | false ↦ h a b ]

-- what is unmarked was so
pub unmarked_before : (m n : Marks) → Part m n → (a : ℕ) → is_unmarked (n a) ≡ true → is_unmarked (m a) ≡ true
unmarked_before m n h a u = elim (cases_Bool (is_unmarked (m a))) [
  | inl e ↦ e
  | inr e ↦ let s = spoken (m a) e in absurd (false≢true (sym (ap (says s.0) (is_unmarked_lem (n a) u)) ∙ h a s.0 s.1))
]

module _ (A : Atoms) where
  -- a marked atom is marked as it is in A
  pub marked_as : (m : Marks) → Agrees A m → (a : ℕ) → is_unmarked (m a) ≡ false → says (A a) (m a) ≡ true
  marked_as m g a u = let s = spoken (m a) u in rw (g a s.0 s.1) s.1

  module _ (P : Proposal) (side : A P.atom ≡ claim P.reason) where
    -- what n marks already adds nothing to it
    pub part_absorbs : (m n : Marks) → Part m n → Agrees A n → is_unmarked (n P.atom) ≡ false → Part (marked m P) n
    part_absorbs m n h g u a b =
        cond_both (eqb a P.atom) (mark_for (claim P.reason)) (m a) (λ v. says b v ≡ true → says b (n a) ≡ true)
        (λ q e. rw (eqb-true a P.atom q, says_claim (claim P.reason) b e, ← side) (marked_as n g P.atom u)) (λ _. h a b)

    pub agrees_marked : (m : Marks) → Agrees A m → Agrees A (marked m P)
    agrees_marked m g a b =
        cond_both (eqb a P.atom) (mark_for (claim P.reason)) (m a) (λ v. says b v ≡ true → A a ≡ b)
        (λ q e. ap A (eqb-true a P.atom q) ∙ side ∙ sym (says_claim (claim P.reason) b e)) (λ _. g a b)

-- the rule of a reason
module _ (P Q : Rule → Type 0) where
  pub there : (o : Option Rule) → There o P → (ρ : Rule) × (o ≡ Some ρ) × P ρ
  there None h = absurd h
  there (Some ρ) h = (ρ, refl, h)

  pub there_more : ((ρ : Rule) → P ρ → Q ρ) → (o : Option Rule) → There o P → There o Q
  there_more f None h = h
  there_more f (Some ρ) h = f ρ h

-- grounds tell whether the atom is in the answer
pub grounds_side : (R : Rules) (A : Atoms) (m : Marks) (p : ℕ) (w : Reason) → Grounds R A m p w → A p ≡ claim w
grounds_side R A m p (Support rule) g = (there (Supports A m p) (Supports A m p) (rule_at R rule) g).2.inside
grounds_side R A m p Lack g = g.outside
grounds_side R A m p (Required rule) g = (there (Requires A m p) (Requires A m p) (rule_at R rule) g).2.outside

-- lists of proposals
pub marks_append : (m : Marks) (Ps Qs : List Proposal) → marked_all m (Ps ++ Qs) ≡ marked_all (marked_all m Ps) Qs
marks_append m [] Qs = refl
marks_append m (P ∷ Ps) Qs = marks_append (marked m P) Ps Qs

module _ (R : Rules) (A : Atoms) where
  pub grounded_append : (m : Marks) (Ps Qs : List Proposal) → Grounded R A m Ps → Grounded R A (marked_all m Ps) Qs → Grounded R A m (Ps ++ Qs)
  grounded_append m [] Qs g h = h
  grounded_append m (P ∷ Ps) Qs g h = (g.0, grounded_append (marked m P) Ps Qs g.1 h)

  pub grounded_agrees : (m : Marks) (Ps : List Proposal) → Agrees A m → Grounded R A m Ps → Agrees A (marked_all m Ps)
  grounded_agrees m [] h g = h
  grounded_agrees m (P ∷ Ps) h g =
      grounded_agrees (marked m P) Ps (agrees_marked A P (grounds_side R A m P.atom P.reason g.0.grounds) m h) g.1

  pub grounded_part : (m : Marks) (Ps : List Proposal) → Grounded R A m Ps → Part m (marked_all m Ps)
  grounded_part m [] g a b e = e
  grounded_part m (P ∷ Ps) g a b e = grounded_part (marked m P) Ps g.1 a b (part_marked m P g.0.unmarked a b e)

  -- the first atom of a list is marked after it
  pub grounded_first : (m : Marks) (P : Proposal) (Ps : List Proposal) → Grounded R A m (P ∷ Ps) → is_unmarked (marked_all m (P ∷ Ps) P.atom) ≡ false
  grounded_first m P Ps g =
      speaks (marked_all m (P ∷ Ps) P.atom) (claim P.reason)
      (grounded_part (marked m P) Ps g.1 P.atom (claim P.reason) (rw (eq-eqb P.atom P.atom refl) (claim_says (claim P.reason))))
