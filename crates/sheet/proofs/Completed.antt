-- Complete does not mislead.
use Rattle.std.proofs.Common.{◌≡◌, ℕ, suc, true, false, not, Ok, sym, refl, ap, subst, arith}
use Rattle.std.proofs.lemmas.Bool.{true≢false, both_ways, not_from_true, cond-true, cond-false}
use Rattle.book.specs.Rules.{Rules, Lawful, Atom}
use Rattle.sheet.specs.declared.mark.Mark.TheVariants.{Unmarked, False}
use Rattle.sheet.specs.declared.proposal.Proposal.{Proposal}
use Rattle.sheet.specs.Marks.{Atoms, is_unmarked, says, marked_all}
use Rattle.sheet.specs.AnswerSets.{Smaller, KeepsAll}
use Rattle.sheet.specs.Allowed.{Allowed, Grounded}
use Rattle.sheet.specs.States.{State, assumed_marks, marks}
use Rattle.sheet.specs.Complete.{unmarked, completed, complete_call}
use Rattle.sheet.specs.Sound.{Sound}
use Rattle.sheet.specs.Law.{OutsideIsAssumed, Honest}
use Rattle.sheet.proofs.Counts.{count_all, count_none, none_counted}
use Rattle.sheet.proofs.Agreement.{Agrees, marked_as, grounded_agrees, grounded_part}
use Rattle.sheet.proofs.Rounds.{rounds_adds, rounds_settled}
use Rattle.sheet.proofs.Parts.{true_within, all_marked}
use Rattle.sheet.proofs.Keeping.{completed_sound}
use Rattle.sheet.proofs.MarkedAtoms.{assumed_says, assumed_agree}

module _ (R : Rules) (lawful : Lawful R) (s : State) (k : Sound R s) (is_open : s.opened ≡ true) where
  abbrev t : State
  t = completed R s

  abbrev A : Atoms
  A = s.answer

  same_answer : t.answer ≡ A
  same_answer = ap (λ v. v.answer) (rounds_adds R (suc R.atoms) s).is

  same_assumed : assumed_marks t ≡ assumed_marks s
  same_assumed = ap assumed_marks (rounds_adds R (suc R.atoms) s).is

  grounded_after : Grounded R A (assumed_marks s) t.entries
  grounded_after =
      subst (λ B. Grounded R B (assumed_marks s) t.entries) same_answer
      (subst (λ m. Grounded R t.answer m t.entries) same_assumed (completed_sound R s k).grounded)

  marks_after : marks t ≡ marked_all (assumed_marks s) t.entries
  marks_after = ap (λ m. marked_all m t.entries) same_assumed

  agree_after : Agrees A (marks t)
  agree_after = subst (Agrees A) (sym marks_after) (grounded_agrees R A (assumed_marks s) t.entries (assumed_agree R s k) grounded_after)

  settled_after : (P : Proposal) → Allowed R A (marks t) P → ⊥
  settled_after =
      subst (λ B. (P : Proposal) → Allowed R B (marks t) P → ⊥) same_answer
      (rounds_settled R (suc R.atoms) s is_open (omega (arith, count_all (λ a. is_unmarked (marks s a)) R.atoms)))

  outside : OutsideIsAssumed R s → (a : ℕ) → Atom R.atoms a → A a ≡ false → says false (marks t a) ≡ true
  outside x a i f =
      subst (λ m. says false (m a) ≡ true) (sym marks_after)
      (grounded_part R A (assumed_marks s) t.entries grounded_after a false (ap (says false) (cond-true (s.assumed a) False Unmarked (x a i f))))

  -- with every atom marked, a part of the answer that keeps every rule is no smaller
  no_smaller : unmarked R (marks t) ≡ 0 → (M : Atoms) → Smaller M A → KeepsAll R M A → ⊥
  no_smaller none M less kept =
      let a = less.missing in
      let u = none_counted (λ b. is_unmarked (marks t b)) R.atoms a (k.inside a less.inside) none in
      both_ways (M a) less.absent
      (true_within R lawful A M kept (assumed_marks s) t.entries (λ b e. absurd (true≢false (assumed_says s.assumed b true e).1))
      (assumed_agree R s k) grounded_after a
      (subst (λ m. says true (m a) ≡ true) marks_after (rw less.inside at (marked_as A (marks t) agree_after a u))))

  pub honest : Honest R s (complete_call R s)
  honest = subst (Honest R s) (sym (cond-false (not s.opened) _ (Ok (unmarked R (marks t)), t) (not_from_true s.opened is_open))) (record {
    counts = refl;
    nothing = settled_after;
    proves = λ e. record { unbroken = k.unbroken is_open; smallest = no_smaller (cc) };
    suffices = λ answer_set x. ap Ok (count_none (λ b. is_unmarked (marks t b)) R.atoms
        (all_marked R lawful A (marks t) agree_after (k.unbroken is_open) settled_after (outside x) answer_set));
  })
