-- The turns of a list of calls.
use Rattle.std.proofs.Common.{◌≡◌, ℕ, ◌+◌, ◌<◌, ◌≤◌, List, [], ◌∷◌, ◌++◌, length, get_or, take, sym, refl, ap, ◌∙◌, subst}
use Rattle.std.proofs.lemmas.List.{map_more, take_all}
use Rattle.book.specs.Rules.{Rules, Lawful}
use Rattle.sheet.specs.declared.call.Call.{Call as Given}
use Rattle.sheet.specs.declared.done.Done.{Done}
use Rattle.sheet.specs.States.{State, new}
use Rattle.sheet.specs.Replayed.{call_of, calls_of}
use Rattle.sheet.specs.Runs.{Call, Answer, call, run}
use Rattle.sheet.specs.Law.{Right}
use Rattle.sheet.specs.View.{View, Left, leaving}
use Rattle.sheet.proofs.Law.{every_run_is_right}
use Rattle.sheet.proofs.Called.{viewed}

-- one call more at the end
run_push : (R : Rules) (s : State) (cs : List Call) (c : Call) → let o = call R (run R s cs).1 c in run R s (cs ++ (c ∷ [])) ≡ ((run R s cs).0 ++ (o.0 ∷ []), o.1)
run_push R s [] c = refl
run_push R s (d ∷ cs) c = let first = call R s d in ap (λ (o : List Answer × State). (first.0 ∷ o.0, o.1)) (run_push R first.1 cs c)

-- so many calls are made, with these answers, and the sheet is this one
pub record Made (R : Rules) (calls : List Given) (i : ℕ) (answers : List Answer) (v : View) : Type 0 where
  pub answered : answers ≡ (run R new (calls_of (take i calls))).0
  pub left : v ≡ viewed R (run R new (calls_of (take i calls))).1

pub one_made : (R : Rules) (calls : List Given) (i : ℕ) (d : Given) (answers more : List Answer) (v w : View) (r : Answer) → i < length calls → Made R calls i answers v → (r, w) ≡ leaving (λ Q s. call Q s (call_of (get_or calls i d))) v → more ≡ answers ++ (r ∷ []) → Made R calls (i + 1) more w
one_made R calls i d answers more v w r l m e push =
    let c = call_of (get_or calls i d) in
    let so_far = run R new (calls_of (take i calls)) in
    let step = e ∙ ap (leaving (λ Q s. call Q s c)) m.left in
    let longer = ap (run R new) (map_more call_of calls i d l) ∙ run_push R new (calls_of (take i calls)) c in
    record {
      answered = push ∙ ap (λ xs. xs ++ (r ∷ [])) m.answered ∙ ap (λ (o : Left Done). so_far.0 ++ (o.0 ∷ [])) step ∙ sym (ap (λ o. o.0) longer);
      left = ap (λ o. o.1) step ∙ sym (ap (λ o. viewed R o.1) longer);
    }

-- all of them are made: the law over lists of calls, of what was answered and left
pub record Ended (R : Rules) (calls : List Given) (answers : List Answer) (v : View) : Type 0 where
  pub right : Right R (calls_of calls) answers v.state
  pub same : v.rules ≡ R

pub all_made : (R : Rules) → Lawful R → (calls : List Given) (i : ℕ) (answers : List Answer) (v : View) → length calls ≤ i → Made R calls i answers v → Ended R calls answers v
all_made R lawful calls i answers v l m =
    let all = ap (λ cs. run R new (calls_of cs)) (take_all i calls l) in
    let law : Ended R calls (run R new (calls_of calls)).0 (viewed R (run R new (calls_of calls)).1) = record { right = every_run_is_right R lawful (calls_of calls); same = refl } in
    subst (λ xs. Ended R calls xs v) (sym (m.answered ∙ ap (λ o. o.0) all))
    (subst (Ended R calls (run R new (calls_of calls)).0) (sym (m.left ∙ ap (λ o. viewed R o.1) all)) law)
