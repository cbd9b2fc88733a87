-- Complete: what it enters is allowed, and when it stops nothing is.
use Rattle.std.proofs.Common.{◌≡◌, ℕ, zero, suc, ◌<◌, Bool, true, false, cond, ◌⊎◌, List, [], ◌∷◌, ◌++◌, length, is_ok, Some, None, Option, sym, refl, ap, ◌∙◌, subst, inl, inr, append-nil, arith, length-append}
use Rattle.std.specs.Option.{option_map, option_or}
use Rattle.std.proofs.lemmas.Option.{cond_some, slice_get_within}
use Rattle.std.proofs.lemmas.Bool.{both_ways, cond_both, eqb-true, eq-eqb, cases_eq}
use Rattle.base.specs.Search.{least}
use Rattle.base.proofs.Search.{none_passes}
use Rattle.book.specs.Rules.{Rule, Rules, rule_at, Atom}
use Rattle.sheet.specs.declared.proposal.Reason.{Reason}
use Rattle.sheet.specs.declared.proposal.Reason.TheVariants.{Support, Lack, Required}
use Rattle.sheet.specs.declared.proposal.Proposal.{Proposal}
use Rattle.sheet.specs.Marks.{is_unmarked, marked_all}
use Rattle.sheet.specs.Allowed.{There, Supports, Requires, Allowed, Grounded}
use Rattle.sheet.specs.States.{State, marks, with_entries}
use Rattle.sheet.specs.Complete.{because, admits, admits_by, lowest, first_reason, enter_first, sweep, round, is_idle, rounds, unmarked}
use Rattle.sheet.proofs.Searches.{least_passes}
use Rattle.sheet.proofs.Counts.{count_less}
use Rattle.sheet.proofs.Agreement.{there, unmarked_before, grounded_part, grounded_first}
use Rattle.sheet.proofs.Verdicts.{verdict_allowed, allowed_verdict}
use Rattle.sheet.proofs.Entering.{Adds, marks_added, adds_none, adds_more, adds_length, adds_same, enter_adds, enter_taken}

-- what is there, or else what stands in for it
else_some : {X : Type 0} (x : X) (o other : Option X) → option_or o other ≡ Some x → (o ≡ Some x) ⊎ (other ≡ Some x)
else_some x None other e = inr e
else_some x (Some y) other e = inl e

else_none : {X : Type 0} (o other : Option X) → option_or o other ≡ None → (o ≡ None) × (other ≡ None)
else_none None other e = (refl, e)
else_none (Some y) other e = absurd cc

mapped_some : (by : ℕ → Reason) (w : Reason) (o : Option ℕ) → option_map by o ≡ Some w → (rule : ℕ) × (o ≡ Some rule) × (by rule ≡ w)
mapped_some by w None e = absurd cc
mapped_some by w (Some rule) e = (rule, refl, cc)

mapped_none : (by : ℕ → Reason) (o : Option ℕ) → option_map by o ≡ None → o ≡ None
mapped_none by None e = refl
mapped_none by (Some rule) e = absurd cc

cond_none : {X : Type 0} (b : Bool) (x : X) → cond b (Some x) None ≡ None → b ≡ false
cond_none true x e = absurd cc
cond_none false x e = refl

module _ (R : Rules) where
  -- nothing is allowed any more
  abbrev pub Settled : State → Type 0
  Settled s = (P : Proposal) → Allowed R s.answer (marks s) P → ⊥

  module _ (s : State) (p : ℕ) where
    lowest_admits : (by : ℕ → Reason) (w : Reason) → lowest R s p by ≡ Some w → admits R s p w ≡ true
    unfolding lowest
    lowest_admits by w e =
        let r = mapped_some by w (least (admits_by R s p by) (length R.rules)) e in
        subst (λ v. admits R s p v ≡ true) r.2 (least_passes (admits_by R s p by) (length R.rules) r.0 r.1).1

    lowest_none : (by : ℕ → Reason) → lowest R s p by ≡ None → (rule : ℕ) → rule < length R.rules → admits R s p (by rule) ≡ false
    unfolding lowest
    lowest_none by e rule l =
        none_passes (admits_by R s p by) (length R.rules) rule l (mapped_none by (least (admits_by R s p by) (length R.rules)) e)

    -- the first reason is admitted
    first_admits : (w : Reason) → first_reason R s p ≡ Some w → admits R s p w ≡ true
    unfolding first_reason
    first_admits w e = elim (else_some w (lowest R s p Support) _ e) [
      | inl h ↦ lowest_admits Support w h
      | inr h ↦ elim (else_some w (cond (admits R s p Lack) (Some Lack) None) _ h) [
        | inl lack ↦ let c = cond_some (admits R s p Lack) Lack w lack in subst (λ v. admits R s p v ≡ true) c.1 c.0
        | inr q ↦ lowest_admits Required w q
      ]
    ]

    -- where there is none, no reason is
    module _ (e : first_reason R s p ≡ None) where
      nones : (lowest R s p Support ≡ None) × (admits R s p Lack ≡ false) × (lowest R s p Required ≡ None)
      unfolding first_reason
      nones =
          let a = else_none (lowest R s p Support) _ e in
          let b = else_none (cond (admits R s p Lack) (Some Lack) None) _ a.1 in
          (a.0, cond_none (admits R s p Lack) Lack b.0, b.1)

      place : (rule : ℕ) (Q : Rule → Type 0) → There (rule_at R rule) Q → rule < length R.rules
      place rule Q g = let at = there Q Q (rule_at R rule) g in slice_get_within R.rules rule at.0 at.1

      refused_all : (w : Reason) → Allowed R s.answer (marks s) (because p w) → admits R s p w ≡ false
      refused_all (Support rule) h = lowest_none Support nones.0 rule (place rule (Supports s.answer (marks s) p) h.grounds)
      refused_all Lack h = nones.1
      refused_all (Required rule) h = lowest_none Required nones.2 rule (place rule (Requires s.answer (marks s) p) h.grounds)

      first_none : (w : Reason) → Allowed R s.answer (marks s) (because p w) → ⊥
      first_none w h = both_ways (admits R s p w) (refused_all w h) (ap is_ok (allowed_verdict R s.answer (marks s) (because p w) h))

    first_adds : (o : Option Reason) → Adds R s (enter_first R s p o)
    first_adds None = adds_none R s
    first_adds (Some w) = enter_adds R s (because p w)

  pub sweep_adds : (s : State) (n : ℕ) → Adds R s (sweep R s n)
  sweep_adds s zero = adds_none R s
  sweep_adds s (suc n) =
      let t = sweep R s n in
      adds_more R s t (sweep R s (suc n)) (sweep_adds s n) (first_adds t (suc n) (first_reason R t (suc n)))

  pub round_adds : (s : State) → Adds R s (round R s)
  unfolding round
  round_adds s = sweep_adds s R.atoms

  pub rounds_adds : (k : ℕ) (s : State) → Adds R s (rounds R k s)
  rounds_adds zero s = adds_none R s
  rounds_adds (suc k) s =
      let t = round R s in
      cond_both (is_idle s t) t (rounds R k t) (Adds R s) (λ _. round_adds s) (λ _. adds_more R s t (rounds R k t) (round_adds s) (rounds_adds k t))

  -- where a sweep over an open sheet enters nothing, no atom has a reason
  module _ (s : State) (is_open : s.opened ≡ true) where
    first_enters : (p : ℕ) (o : Option Reason) → first_reason R s p ≡ o → length (enter_first R s p o).entries ≡ length s.entries → o ≡ None
    first_enters p None e h = refl
    first_enters p (Some w) e h =
        let taken = enter_taken R s (because p w) is_open (verdict_allowed R s.answer (marks s) (because p w) (first_admits s p w e)) in
        absurd (omega (arith, h, ap (λ o. length o.1.entries) taken, length-append s.entries (because p w ∷ [])))

    quiet : (n : ℕ) → length (sweep R s n).entries ≡ length s.entries → (a : ℕ) → Atom n a → first_reason R s a ≡ None
    quiet zero e a i = absurd (omega arith)
    quiet (suc n) e a i =
        let t = sweep R s n in
        let before = sweep_adds s n in
        let last = first_adds t (suc n) (first_reason R t (suc n)) in
        let none : length t.entries ≡ length s.entries = omega (arith, adds_length R s t before, adds_length R t (sweep R s (suc n)) last, e) in
        elim (cases_eq a (suc n)) [
          | inl q ↦ rw q (first_enters (suc n) (first_reason R s (suc n)) refl
              (subst (λ v. length (enter_first R v (suc n) (first_reason R v (suc n))).entries ≡ length s.entries) (adds_same R s t before none) e))
          | inr q ↦ quiet n none a (i.0, omega (arith, i.1))
        ]

    idle_settled : is_idle s (round R s) ≡ true → Settled (round R s)
    unfolding round
    idle_settled e =
        let none = eqb-true (length (round R s).entries) (length s.entries) e in
        subst Settled (sym (adds_same R s (round R s) (round_adds s) none))
        (λ P h. first_none s P.atom (quiet R.atoms none P.atom h.atom) P.reason h)

  -- each other round marks an atom
  fewer_added : (s : State) (Ps : List Proposal) → Grounded R s.answer (marks s) Ps →
      is_idle s (with_entries s (s.entries ++ Ps)) ≡ false → unmarked R (marks (with_entries s (s.entries ++ Ps))) < unmarked R (marks s)
  fewer_added s [] g e = absurd (both_ways (is_idle s (with_entries s (s.entries ++ []))) e (eq-eqb _ _ (ap length (append-nil s.entries))))
  fewer_added s (P ∷ Ps) g e =
      let m = marks s in
      rw (marks_added s (P ∷ Ps))
      (count_less (λ a. is_unmarked (m a)) (λ a. is_unmarked (marked_all m (P ∷ Ps) a)) (unmarked_before m (marked_all m (P ∷ Ps)) (grounded_part R s.answer m (P ∷ Ps) g))
      R.atoms P.atom g.0.atom (ap is_unmarked g.0.unmarked) (grounded_first R s.answer m P Ps g))

  fewer : (s t : State) → Adds R s t → is_idle s t ≡ false → unmarked R (marks t) < unmarked R (marks s)
  fewer s t a e = subst (λ v. is_idle s v ≡ false → unmarked R (marks v) < unmarked R (marks s)) (sym a.is) (fewer_added s a.added a.grounded) e

  -- so enough rounds leave nothing allowed
  pub rounds_settled : (k : ℕ) (s : State) → s.opened ≡ true → unmarked R (marks s) < k → Settled (rounds R k s)
  rounds_settled zero s is_open l = absurd (omega arith)
  rounds_settled (suc k) s is_open l =
      let t = round R s in
      let a = round_adds s in
      cond_both (is_idle s t) t (rounds R k t) Settled (idle_settled s is_open)
      (λ e. rounds_settled k t (ap (λ v. v.opened) a.is ∙ is_open) (omega (arith, fewer s t a e)))
