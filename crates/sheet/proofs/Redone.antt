-- The turns of the loop that tests the later entries again.
use Rattle.std.proofs.Common.{◌≡◌, ℕ, ◌+◌, ◌<◌, ◌≤◌, Bool, true, false, List, [], ◌∷◌, ◌++◌, length, get_or, take, drop, set, is_ok, Ok, Err, sym, refl, ap, ◌∙◌, subst, arith}
use mathlib.Core.Path.{fun_ext}
use Rattle.std.proofs.lemmas.List.{take_more_set, drop-set-lt, at_drop_more}
use Rattle.std.proofs.lemmas.Bool.{false≢true, true≢false}
use Rattle.book.specs.Rules.{Rules}
use Rattle.sheet.specs.declared.mark.Mark.{Mark}
use Rattle.sheet.specs.declared.proposal.Proposal.{Proposal}
use Rattle.sheet.specs.Marks.{claim, mark_for, marked_all, assuming}
use Rattle.sheet.specs.States.{State, marks, with_entries}
use Rattle.sheet.specs.Verdicts.{Verdict, verdict}
use Rattle.sheet.specs.Enter.{enter_by, enter_call, enter_all}
use Rattle.sheet.specs.Kept.{flagged, marking, unmarked_in, open_with}
use Rattle.sheet.proofs.Called.{placed}
use Rattle.sheet.proofs.Stored.{push_tied}

-- what an enter call leaves, by its verdict

enter_in : (s : State) (P : Proposal) (r : Verdict) → is_ok r ≡ true → (enter_by s P r).1 ≡ with_entries s (s.entries ++ (P ∷ []))
enter_in s P (Ok u) e = refl
enter_in s P (Err x) e = absurd (false≢true e)

enter_out : (s : State) (P : Proposal) (r : Verdict) → is_ok r ≡ false → (enter_by s P r).1 ≡ s
enter_out s P (Ok u) e = absurd (true≢false e)
enter_out s P (Err x) e = refl

ok_is : (r : Verdict) → is_ok r ≡ true → Ok tt ≡ r
ok_is (Ok u) e = refl
ok_is (Err x) e = absurd (false≢true e)

module _ (R : Rules) (answer assumed : List Bool) (end : State) where
  abbrev S : List Proposal → State
  S es = open_with answer assumed es

  pub record Inv (to at : ℕ) (ms : List Mark) (es : List Proposal) : Type 0 where
    pub before : to < at
    pub tied : (a : ℕ) → marking ms a ≡ marked_all (assuming (flagged assumed)) (take to es) a
    pub rest : enter_all R (S (take to es)) (drop at es) ≡ end
    pub room : to + unmarked_in ms ≤ 1024

  -- where the two ways meet
  pub carry : (to to₁ at : ℕ) (ms ms₁ : List Mark) (es es₁ : List Proposal) → to₁ ≡ to → ms₁ ≡ ms → es₁ ≡ es → Inv to at ms es → Inv to₁ at ms₁ es₁
  carry to to₁ at ms ms₁ es es₁ a b c h = subst (λ x. Inv x at ms₁ es₁) (sym a) (subst (λ x. Inv to at x es₁) (sym b) (subst (λ x. Inv to at ms x) (sym c) h))

  module _ (to at : ℕ) (ms : List Mark) (es : List Proposal) (d : Proposal) (h : at < length es) (inv : Inv to at ms es) where
    abbrev P : Proposal
    P = get_or es at d

    -- the verdict on the marks of the entries kept so far
    same_verdict : verdict R (flagged answer) (marking ms) P ≡ verdict R (flagged answer) (marks (S (take to es))) P
    same_verdict = ap (λ m. verdict R (flagged answer) m P) (fun_ext inv.tied)

    turn : enter_all R (S (take to es)) (drop at es) ≡ enter_all R (enter_call R (S (take to es)) P).1 (drop (at + 1) es)
    turn = at_drop_more (enter_all R (S (take to es))) es at d h

    pub turn_out : false ≡ is_ok (verdict R (flagged answer) (marking ms) P) → Inv to (at + 1) ms es
    turn_out e =
        let s = S (take to es) in
        let out : (enter_call R s P).1 ≡ s = enter_out s P (verdict R (flagged answer) (marks s) P) (sym (e ∙ ap is_ok same_verdict)) in
        record { before = omega (arith, inv.before); tied = inv.tied; rest = ap (λ t. enter_all R t (drop (at + 1) es)) (sym out) ∙ sym turn ∙ inv.rest; room = inv.room }

    pub turn_in : (ms₁ : List Mark) → R.atoms ≤ 1024 → length ms ≡ 1025 → true ≡ is_ok (verdict R (flagged answer) (marking ms) P) → ms₁ ≡ set ms P.atom (mark_for (claim P.reason)) → Inv (to + 1) (at + 1) ms₁ (set es to P)
    turn_in ms₁ few size e m =
        let s = S (take to es) in
        let more : take (to + 1) (set es to P) ≡ take to es ++ (P ∷ []) = take_more_set es to P (omega (arith, inv.before)) in
        let left : drop (at + 1) (set es to P) ≡ drop (at + 1) es = drop-set-lt (at + 1) es to P (omega (arith, inv.before)) in
        let into : (enter_call R s P).1 ≡ S (take to es ++ (P ∷ [])) = enter_in s P (verdict R (flagged answer) (marks s) P) (sym (e ∙ ap is_ok same_verdict)) in
        let f = placed R (flagged answer) (marking ms) ms P few size (λ _. refl) (ok_is _ (sym e)) in
        record {
          before = omega (arith, inv.before);
          tied = λ a. ap (λ ns. marking ns a) m ∙ push_tied ms P f.within (assuming (flagged assumed)) (take to es) (take (to + 1) (set es to P)) inv.tied more a;
          rest = ap (λ fs. enter_all R (S fs) (drop (at + 1) (set es to P))) more ∙ ap (enter_all R (S (take to es ++ (P ∷ [])))) left ∙ ap (λ t. enter_all R t (drop (at + 1) es)) (sym into) ∙ sym turn ∙ inv.rest;
          room = omega (arith, inv.room, f.less, ap unmarked_in m);
        }
