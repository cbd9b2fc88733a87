-- The marks of a sheet: which atoms they are of, and that they agree with the answer.
use Rattle.std.proofs.Common.{◌≡◌, ℕ, Bool, true, false, cond, not, ◌||◌, eqb, List, [], ◌∷◌, sym, refl, ◌∙◌}
use Rattle.std.proofs.lemmas.Bool.{false≢true, not-true, cond_both}
use Rattle.book.specs.Rules.{Rules}
use Rattle.sheet.specs.declared.mark.Mark.TheVariants.{Unmarked, False}
use Rattle.sheet.specs.declared.proposal.Proposal.{Proposal}
use Rattle.sheet.specs.Marks.{Atoms, Marks, is_unmarked, says, claim, mark_for, marked, marked_all, assuming}
use Rattle.sheet.specs.States.{State, assumed_marks, marks}
use Rattle.sheet.specs.Sound.{Sound}
use Rattle.sheet.specs.Law.{has_entry}
use Rattle.sheet.proofs.Agreement.{Agrees, grounded_agrees}

-- an assumed atom is marked false, and no other is marked
pub assumed_says : (X : Atoms) (a : ℕ) (b : Bool) → says b (assuming X a) ≡ true → (X a ≡ true) × (b ≡ false)
assumed_says X a b = cond_both (X a) False Unmarked (λ v. says b v ≡ true → (X a ≡ true) × (b ≡ false)) (λ x e. (x, not-true b e)) (λ _ e. absurd (false≢true e))

-- the marked atoms are the assumed ones and those with an entry

unclaimed : (h c : Bool) → cond h false (is_unmarked (mark_for c)) ≡ false
unclaimed true c = refl
unclaimed false true = refl
unclaimed false false = refl

pub entry_marks : (m : Marks) (Ps : List Proposal) (a : ℕ) → is_unmarked (marked_all m Ps a) ≡ cond (has_entry Ps a) false (is_unmarked (m a))
entry_marks m [] a = refl
entry_marks m (P ∷ Ps) a =
    entry_marks (marked m P) Ps a ∙
    elim (eqb a P.atom) as (λ t. cond (has_entry Ps a) false (is_unmarked (cond t (mark_for (claim P.reason)) (m a))) ≡ cond (t || has_entry Ps a) false (is_unmarked (m a)))
    [ true ↦ unclaimed (has_entry Ps a) (claim P.reason) | false ↦ refl ]

pub either_marks : (x h : Bool) → cond h false (is_unmarked (cond x False Unmarked)) ≡ not (x || h)
either_marks true true = refl
either_marks true false = refl
either_marks false true = refl
either_marks false false = refl

module _ (R : Rules) where
  pub assumed_agree : (s : State) → Sound R s → Agrees s.answer (assumed_marks s)
  assumed_agree s k a b e = let h = assumed_says s.assumed a b e in k.apart a h.0 ∙ sym h.1

  pub marks_agree : (s : State) → Sound R s → Agrees s.answer (marks s)
  marks_agree s k = grounded_agrees R s.answer (assumed_marks s) s.entries (assumed_agree s k) k.grounded
