-- Entering only adds to a sheet, and what it adds is grounded above what stood there.
use Rattle.std.proofs.Common.{◌≡◌, ℕ, zero, suc, ◌+◌, ◌≤◌, true, false, not, List, [], ◌∷◌, ◌++◌, length, take, is_ok, Ok, Err, sym, refl, ap, ◌∙◌, subst, append_assoc, append-nil, arith, length-append}
use Rattle.std.proofs.lemmas.Bool.{cond_both, cond-false, not_from_true}
use Rattle.book.specs.Rules.{Rules, Atom}
use Rattle.sheet.specs.declared.error.SheetError.TheVariants.{AlreadyMarked}
use Rattle.sheet.specs.declared.proposal.Proposal.{Proposal}
use Rattle.sheet.specs.Marks.{Atoms, Marks, is_unmarked, marked, marked_all}
use Rattle.sheet.specs.Allowed.{Allowed, Grounded}
use Rattle.sheet.specs.Verdicts.{Verdict, verdict}
use Rattle.sheet.specs.States.{State, assumed_marks, marks, with_entries, After}
use Rattle.sheet.specs.Enter.{enter_by, enter_call, enter_all, TakesTheAllowed}
use Rattle.sheet.specs.Sound.{Sound}
use Rattle.sheet.proofs.Agreement.{marks_append, grounded_append}
use Rattle.sheet.proofs.Verdicts.{verdict_allowed, allowed_verdict, marked_verdict}

pub record Adds (R : Rules) (s t : State) : Type 0 where
  pub added : List Proposal
  pub is : t ≡ with_entries s (s.entries ++ added)
  pub grounded : Grounded R s.answer (marks s) added

-- the marks after entries were added
pub marks_added : (s : State) (Ps : List Proposal) → marks (with_entries s (s.entries ++ Ps)) ≡ marked_all (marks s) Ps
marks_added s Ps = marks_append (assumed_marks s) s.entries Ps

pub grounded_take : (R : Rules) (A : Atoms) (m : Marks) (Ps : List Proposal) (k : ℕ) → Grounded R A m Ps → Grounded R A m (take k Ps)
grounded_take R A m [] zero g = tt
grounded_take R A m [] (suc k) g = tt
grounded_take R A m (P ∷ Ps) zero g = tt
grounded_take R A m (P ∷ Ps) (suc k) g = (g.0, grounded_take R A (marked m P) Ps k g.1)

module _ (R : Rules) where
  pub adds_none : (s : State) → Adds R s s
  adds_none s = record { added = []; is = ap (with_entries s) (sym (append-nil s.entries)); grounded = tt }

  pub adds_more : (s t u : State) → Adds R s t → Adds R t u → Adds R s u
  adds_more s t u a b = subst (λ v. Adds R v u → Adds R s u) (sym a.is) (λ c. record {
    added = a.added ++ c.added;
    is = c.is ∙ ap (with_entries s) (append_assoc s.entries a.added c.added);
    grounded = grounded_append R s.answer (marks s) a.added c.added a.grounded
        (subst (λ m. Grounded R s.answer m c.added) (marks_added s a.added) c.grounded);
  }) b

  pub adds_length : (s t : State) (a : Adds R s t) → length t.entries ≡ length s.entries + length a.added
  adds_length s t a = ap (λ v. length v.entries) a.is ∙ length-append s.entries a.added

  -- a sheet to which nothing was added is the same
  pub adds_same : (s t : State) → Adds R s t → length t.entries ≡ length s.entries → t ≡ s
  adds_same s t a e = nothing a.added a.is (omega (arith, adds_length s t a))
    where
      nothing : (Ps : List Proposal) → t ≡ with_entries s (s.entries ++ Ps) → length Ps ≡ 0 → t ≡ s
      nothing [] q h = q ∙ ap (with_entries s) (append-nil s.entries)
      nothing (P ∷ Ps) q h = absurd (omega arith)

  pub adds_sound : (s t : State) → Adds R s t → Sound R s → Sound R t
  adds_sound s t a k = subst (Sound R) (sym a.is) (record {
    inside = k.inside;
    assumed = k.assumed;
    apart = k.apart;
    unbroken = k.unbroken;
    grounded = grounded_append R s.answer (assumed_marks s) s.entries a.added k.grounded a.grounded;
  })

  module _ (s : State) (P : Proposal) where
    by_verdict : (v : Verdict) → verdict R s.answer (marks s) P ≡ v → Adds R s (enter_by s P v).1
    by_verdict (Ok u) e = record { added = P ∷ []; is = refl; grounded = (verdict_allowed R s.answer (marks s) P (ap is_ok e), tt) }
    by_verdict (Err r) e = adds_none s

    pub enter_adds : Adds R s (enter_call R s P).1
    enter_adds = cond_both (not s.opened) _ _ (λ (o : After (Unit {0})). Adds R s o.1) (λ _. adds_none s) (λ _. by_verdict (verdict R s.answer (marks s) P) refl)

    -- on an open sheet
    module _ (is_open : s.opened ≡ true) where
      by_its_verdict : (v : Verdict) → verdict R s.answer (marks s) P ≡ v → enter_call R s P ≡ enter_by s P v
      by_its_verdict v e = cond-false (not s.opened) _ _ (not_from_true s.opened is_open) ∙ ap (enter_by s P) e

      pub enter_taken : Allowed R s.answer (marks s) P → enter_call R s P ≡ (Ok tt, with_entries s (s.entries ++ (P ∷ [])))
      enter_taken h = by_its_verdict (Ok tt) (allowed_verdict R s.answer (marks s) P h)

      pub enter_marked : Atom R.atoms P.atom → is_unmarked (marks s P.atom) ≡ false → enter_call R s P ≡ (Err AlreadyMarked, s)
      enter_marked i u = by_its_verdict (Err AlreadyMarked) (marked_verdict R s.answer (marks s) P i u)

  took : (s : State) (P : Proposal) (v : Verdict) → (enter_by s P v).0 ≡ Ok tt → is_ok v ≡ true
  took s P (Ok u) e = refl
  took s P (Err r) e = absurd cc

  pub takes_the_allowed : (s : State) (P : Proposal) → TakesTheAllowed R s P
  takes_the_allowed s P is_open = (
    λ e. verdict_allowed R s.answer (marks s) P (took s P (verdict R s.answer (marks s) P) (sym (ap (λ o. o.0) (by_its_verdict s P is_open (verdict R s.answer (marks s) P) refl)) ∙ e)),
    λ h. ap (λ o. o.0) (enter_taken s P is_open h),
  )

  pub all_adds : (s : State) (Ps : List Proposal) → Adds R s (enter_all R s Ps)
  all_adds s [] = adds_none s
  all_adds s (P ∷ Ps) = let t = (enter_call R s P).1 in adds_more s t (enter_all R t Ps) (enter_adds s P) (all_adds t Ps)

  -- one call adds one entry at most
  by_verdict_length : (s : State) (P : Proposal) (v : Verdict) → length (enter_by s P v).1.entries ≤ suc (length s.entries)
  by_verdict_length s P (Ok u) = omega (arith, length-append s.entries (P ∷ []))
  by_verdict_length s P (Err r) = omega arith

  enter_length : (s : State) (P : Proposal) → length (enter_call R s P).1.entries ≤ suc (length s.entries)
  enter_length s P =
      cond_both (not s.opened) _ _ (λ (o : After (Unit {0})). length o.1.entries ≤ suc (length s.entries))
      (λ _. omega arith) (λ _. by_verdict_length s P (verdict R s.answer (marks s) P))

  pub all_length : (s : State) (Ps : List Proposal) → length (enter_all R s Ps).entries ≤ length s.entries + length Ps
  all_length s [] = omega arith
  all_length s (P ∷ Ps) = omega (arith, enter_length s P, all_length (enter_call R s P).1 Ps)
