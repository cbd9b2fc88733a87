-- The turns of completing.
use Rattle.std.proofs.Common.{◌≡◌, ℕ, suc, ◌+◌, ◌-◌, ◌<◌, ◌≤◌, cond, length, sym, ap, ◌∙◌, arith}
use Rattle.std.proofs.lemmas.Bool.{cond-true, cond-false, eq-eqb, ne_eqb}
use Rattle.book.specs.Rules.{Rules}
use Rattle.sheet.specs.Complete.{first_reason, enter_first, sweep, round, is_idle, rounds}
use Rattle.sheet.specs.States.{State}
use Rattle.sheet.specs.View.{View, changing}

abbrev at : ℕ → Rules → State → State
at p R s = enter_first R s p (first_reason R s p)

-- the turn of an atom, after those below it
pub sweep_more : (v w x : View) (a : ℕ) → 1 ≤ a → x ≡ changing (at a) w → w ≡ changing (λ R s. sweep R s (a - 1)) v → x ≡ changing (λ R s. sweep R s a) v
sweep_more v w x a low e inv =
    let next : suc (a - 1) ≡ a = omega arith in
    e ∙ ap (changing (at a)) inv ∙ ap (λ n. changing (λ R s. at n R (sweep R s (a - 1))) v) (sym next) ∙ ap (λ n. changing (λ R s. sweep R s n) v) next

module _ (most i : ℕ) (w end : View) (inv : changing (λ R s. rounds R (most - i) s) w ≡ end) (l : i < most) where
  abbrev next : State
  next = round w.rules w.state

  -- one round more
  one_more : changing (λ R s. cond (is_idle s (round R s)) (round R s) (rounds R (most - (i + 1)) (round R s))) w ≡ end
  one_more = let left : suc (most - (i + 1)) ≡ most - i = omega arith in ap (λ n. changing (λ R s. rounds R n s) w) left ∙ inv

  module _ (x : View) (e : x ≡ changing round w) where
    size : length x.state.entries ≡ length next.entries
    size = ap (λ (v : View). length v.state.entries) e

    pub rounds_stop : length x.state.entries ≡ length w.state.entries → x ≡ end
    rounds_stop same = e ∙ ap (λ s. record { rules = w.rules; state = s }) (sym (cond-true (is_idle w.state next) next _ (eq-eqb (length next.entries) (length w.state.entries) (sym size ∙ same)))) ∙ one_more

    pub rounds_on : (length x.state.entries ≡ length w.state.entries → ⊥) → changing (λ R s. rounds R (most - (i + 1)) s) x ≡ end
    rounds_on more =
        ap (changing (λ R s. rounds R (most - (i + 1)) s)) e
        ∙ ap (λ s. record { rules = w.rules; state = s }) (sym (cond-false (is_idle w.state next) next (rounds w.rules (most - (i + 1)) next) (ne_eqb (length next.entries) (length w.state.entries) (λ same. more (size ∙ same)))))
        ∙ one_more
