-- An honest helper is never shut out.
use Rattle.std.proofs.Common.{◌≡◌, true, List, [], ◌∷◌, ◌++◌, map, sym, refl, subst, inl, inr}
use Rattle.std.specs.List.{AllByRecursion as Each}
use Rattle.std.proofs.lemmas.Bool.{cases_Bool}
use Rattle.book.specs.Rules.{Rules}
use Rattle.sheet.specs.declared.done.Done.TheVariants.{Entered}
use Rattle.sheet.specs.declared.proposal.Proposal.{Proposal}
use Rattle.sheet.specs.Marks.{Marks, is_unmarked, marked}
use Rattle.sheet.specs.Allowed.{Allowed, Grounded}
use Rattle.sheet.specs.States.{State, marks, with_entries, After}
use Rattle.sheet.specs.Runs.{Enter, answered, run}
use Rattle.sheet.specs.Law.{EnteredOrMarked}
use Rattle.sheet.proofs.Agreement.{Part, Agrees, is_unmarked_lem, part_both, part_absorbs, agrees_marked, grounds_side}
use Rattle.sheet.proofs.Verdicts.{grounds_more}
use Rattle.sheet.proofs.Entering.{marks_added, enter_taken, enter_marked}

module _ (R : Rules) where
  -- a list that is grounded above marks that the sheet has is entered, but for atoms that are marked already
  pub welcome : (Ps : List Proposal) (m : Marks) (s : State) → s.opened ≡ true → Agrees s.answer (marks s) → Part m (marks s) →
      Grounded R s.answer m Ps → Each EnteredOrMarked (run R s (map Enter Ps)).0
  welcome [] m s is_open g h w = tt
  welcome (P ∷ Ps) m s is_open g h w =
      let A = s.answer in
      let n = marks s in
      let p = P.atom in
      let t = with_entries s (s.entries ++ (P ∷ [])) in
      let side = grounds_side R A m p P.reason w.0.grounds in
      let Meets : After (Unit {0}) → Type 0 = λ o. EnteredOrMarked (answered (λ _. Entered) o.0) × Each EnteredOrMarked (run R o.1 (map Enter Ps)).0 in
      elim (cases_Bool (is_unmarked (n p))) [
        | inl u ↦
            let allowed : Allowed R A n P = record { atom = w.0.atom; unmarked = is_unmarked_lem (n p) u; grounds = grounds_more R A m n h p P.reason w.0.grounds } in
            subst Meets (sym (enter_taken R s P is_open allowed)) (
              inl refl,
              welcome Ps (marked m P) t is_open
                  (subst (Agrees A) (sym (marks_added s (P ∷ []))) (agrees_marked A P side n g))
                  (subst (Part (marked m P)) (sym (marks_added s (P ∷ []))) (part_both m n P h)) w.1,
            )
        | inr u ↦
            subst Meets (sym (enter_marked R s P is_open w.0.atom u))
            (inr refl, welcome Ps (marked m P) s is_open g (part_absorbs A P side m n h g u) w.1)
      ]
