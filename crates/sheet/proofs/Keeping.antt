-- Every call keeps a sheet sound.
use Rattle.std.proofs.Common.{◌≡◌, ℕ, suc, ◌+◌, cond, not, List, [], ◌∷◌, take, drop, ℤ, Some, None, Option, refl}
use Rattle.std.proofs.lemmas.Bool.{false≢true, cond_both}
use Rattle.book.specs.Rules.{Rules}
use Rattle.sheet.specs.declared.error.SheetError.TheVariants.{WrongState, UnknownAtom}
use Rattle.sheet.specs.declared.proposal.Proposal.{Proposal}
use Rattle.sheet.specs.Marks.{is_atom}
use Rattle.sheet.specs.States.{State, new, assumed_marks, with_entries, After, refused}
use Rattle.sheet.specs.Open.{positives, first_fault, first_broken, open_rules, open_list, open_call}
use Rattle.sheet.specs.Enter.{enter_call}
use Rattle.sheet.specs.Strike.{place_of, without, strike_at, strike_call}
use Rattle.sheet.specs.Complete.{completed, complete_call}
use Rattle.sheet.specs.Runs.{Call, Open, Enter, Strike, Complete, call, run}
use Rattle.sheet.specs.Sound.{Sound}
use Rattle.sheet.proofs.Entering.{grounded_take, adds_sound, enter_adds, all_adds}
use Rattle.sheet.proofs.Rounds.{rounds_adds}
use Rattle.sheet.proofs.Opening.{taken_sound}

module _ (R : Rules) where
  abbrev Kept : {X : Type 0} → After X → Type 0
  Kept o = Sound R o.1

  pub new_sound : Sound R new
  new_sound = record {
    inside = λ a e. absurd (false≢true e);
    assumed = λ a e. absurd (false≢true e);
    apart = λ a e. refl;
    unbroken = λ e. absurd (false≢true e);
    grounded = tt;
  }

  module _ (s : State) (k : Sound R s) where
    -- an open list, where no fault was found and no rule is broken
    rules_sound : (zs : List ℤ) → first_fault R zs ≡ None → (o : Option ℕ) → first_broken R (positives zs) ≡ o → Kept (open_rules s zs o)
    rules_sound zs e None h = taken_sound R zs e h
    rules_sound zs e (Some rule) h = k

    list_sound : (zs : List ℤ) (o : Option ℕ) → first_fault R zs ≡ o → Kept (open_list R s zs o)
    list_sound zs None e = rules_sound zs e (first_broken R (positives zs)) refl
    list_sound zs (Some at) e = k

    pub open_sound : (zs : List ℤ) → Kept (open_call R s zs)
    open_sound zs = cond_both s.opened (refused s WrongState) (open_list R s zs (first_fault R zs)) Kept (λ _. k) (λ _. list_sound zs (first_fault R zs) refl)

    pub enter_sound : (P : Proposal) → Kept (enter_call R s P)
    enter_sound P = adds_sound R s (enter_call R s P).1 (enter_adds R s P) k

    take_sound : (at : ℕ) → Sound R (with_entries s (take at s.entries))
    take_sound at = record {
      inside = k.inside;
      assumed = k.assumed;
      apart = k.apart;
      unbroken = k.unbroken;
      grounded = grounded_take R s.answer (assumed_marks s) s.entries at k.grounded;
    }

    place_sound : (o : Option ℕ) → Kept (strike_at R s o)
    place_sound None = k
    place_sound (Some at) =
        let t = with_entries s (take at s.entries) in
        adds_sound R t (without R s at) (all_adds R t (drop (at + 1) s.entries)) (take_sound at)

    pub strike_sound : (p : ℕ) → Kept (strike_call R s p)
    strike_sound p =
        cond_both (not s.opened) (refused s WrongState) (cond (not (is_atom R p)) (refused s (UnknownAtom 0)) (strike_at R s (place_of s.entries p))) Kept (λ _. k)
        (λ _. cond_both (not (is_atom R p)) (refused s (UnknownAtom 0)) (strike_at R s (place_of s.entries p)) Kept (λ _. k) (λ _. place_sound (place_of s.entries p)))

    pub completed_sound : Sound R (completed R s)
    completed_sound = adds_sound R s (completed R s) (rounds_adds R (suc R.atoms) s) k

    pub complete_sound : Kept (complete_call R s)
    complete_sound = cond_both (not s.opened) (refused s WrongState) _ Kept (λ _. k) (λ _. completed_sound)

    pub call_sound : (c : Call) → Kept (call R s c)
    call_sound (Open zs) = open_sound zs
    call_sound (Enter P) = enter_sound P
    call_sound (Strike p) = strike_sound p
    call_sound Complete = complete_sound

  pub run_sound : (s : State) → Sound R s → (cs : List Call) → Sound R (run R s cs).1
  run_sound s k [] = k
  run_sound s k (c ∷ cs) = run_sound (call R s c).1 (call_sound s k c) cs
