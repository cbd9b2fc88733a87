-- Grounded marks, and the parts of an answer that keep every rule.
use Rattle.std.proofs.Common.{◌≡◌, ℕ, ◌≤◌, Bool, true, false, not, ◌||◌, eqb, List, [], ◌∷◌, length, ap, inl, inr}
use Rattle.std.proofs.lemmas.Bool.{false≢true, both_ways, not-false, not_from_false, cond_both, cases_Bool, or_left, or_right, eqb-true}
use Rattle.std.specs.List.{list_any}
use Rattle.book.specs.Rules.{Rule, Rules, Lawful, LawfulRule, Atom, head_limit, rule_at}
use Rattle.book.specs.declared.kind.Kind.{Kind}
use Rattle.book.specs.declared.kind.Kind.TheVariants.{Plain, Choice}
use Rattle.sheet.specs.declared.proposal.Reason.{Reason}
use Rattle.sheet.specs.declared.proposal.Reason.TheVariants.{Support, Lack, Required}
use Rattle.sheet.specs.declared.proposal.Proposal.{Proposal}
use Rattle.sheet.specs.Marks.{Atoms, Marks, is_unmarked, says, claim, mark_for, marked, marked_all}
use Rattle.sheet.specs.Bodies.{body_true}
use Rattle.sheet.specs.AnswerSets.{head_broken, broken, head_kept, keeps, Unbroken, KeepsAll, AnswerSet}
use Rattle.sheet.specs.Allowed.{Supports, Grounds, Allowed, Grounded}
use Rattle.sheet.proofs.Members.{In, every_at, every_from, some_at, some_from, all_in, all_from, nth_in, in_nth, has_in, in_has, only_one}
use Rattle.sheet.proofs.Agreement.{Agrees, is_unmarked_lem, marked_as, agrees_marked, there, grounds_side}
use Rattle.sheet.proofs.Bodies.{holds_true, true_holds, true_more}

-- the second of two, where the first is not so
second : (x y : Bool) → x ≡ true → (not x || y) ≡ true → y ≡ true
second x y e h = rw e at h

-- a part of A that keeps every rule has each atom that a grounded list marks true
module _ (R : Rules) (lawful : Lawful R) (A M : Atoms) (kept : KeepsAll R M A) where
  head_kept_lem : (k : Kind) (hs : List ℕ) → length hs ≤ head_limit k → (p : ℕ) → In p hs → A p ≡ true → head_kept M A k hs ≡ true → M p ≡ true
  head_kept_lem Plain hs l p i a e = let r = some_at M hs e in rw (only_one hs l p r.0 i r.1) r.2
  head_kept_lem Choice hs l p i a e = second (A p) (M p) a (every_at (λ b. not (A b) || M b) hs p e i)

  module _ (m : Marks) (within : (a : ℕ) → says true (m a) ≡ true → M a ≡ true) (agree : Agrees A m) where
    supported : (p : ℕ) (w : Reason) → Grounds R A m p w → says true (mark_for (claim w)) ≡ true → M p ≡ true
    supported p (Support rule) g t =
        let at = there (Supports A m p) (Supports A m p) (rule_at R rule) g in
        let ρ = at.0 in
        let s = at.2 in
        let i = nth_in R.rules rule ρ at.1 in
        head_kept_lem ρ.kind ρ.head (all_in (LawfulRule R.atoms) R.rules ρ lawful.each i).short_head p (in_has ρ.head p s.head) s.inside
        (second (body_true M A ρ) _ (holds_true m M A within (λ a. agree a false) ρ s.body) (all_in (λ σ. keeps M A σ ≡ true) R.rules ρ kept i))
    supported p Lack g t = absurd (false≢true t)
    supported p (Required rule) g t = absurd (false≢true t)

  pub true_within : (m : Marks) (Ps : List Proposal) → ((a : ℕ) → says true (m a) ≡ true → M a ≡ true) → Agrees A m → Grounded R A m Ps →
      (a : ℕ) → says true (marked_all m Ps a) ≡ true → M a ≡ true
  true_within m [] h c g = h
  true_within m (P ∷ Ps) h c g =
      let G = g.0.grounds in
      true_within (marked m P) Ps
      (λ a. cond_both (eqb a P.atom) _ _ (λ v. says true v ≡ true → M a ≡ true)
      (λ e t. rw (eqb-true a P.atom e) (supported m h c P.atom P.reason G t)) (λ _. h a))
      (agrees_marked A P (grounds_side R A m P.atom P.reason G) m c) g.1

-- marks that agree with A, have each atom outside it false, and allow nothing more: the atoms marked true keep every rule
module _ (R : Rules) (lawful : Lawful R) (A : Atoms) (m : Marks) (agree : Agrees A m) (unbroken : Unbroken R A)
    (settled : (P : Proposal) → Allowed R A m P → ⊥) (outside : (a : ℕ) → Atom R.atoms a → A a ≡ false → says false (m a) ≡ true) where
  abbrev trues : Atoms
  trues a = says true (m a)

  head_keeps : (k : Kind) (hs : List ℕ) → ((a : ℕ) → In a hs → A a ≡ true → trues a ≡ true) → head_broken A k hs ≡ false → head_kept trues A k hs ≡ true
  head_keeps Plain hs h e = let r = some_at A hs (not-false (list_any A hs) e) in some_from trues hs r.0 r.1 (h r.0 r.1 r.2)
  head_keeps Choice hs h e =
      every_from (λ a. not (A a) || trues a) hs
      (λ a i. elim (cases_Bool (A a)) [
        | inl t ↦ or_right (not (A a)) (trues a) (h a i t)
        | inr f ↦ or_left (not (A a)) (trues a) (not_from_false (A a) f)
      ])

  -- a head atom in A of a rule whose body is true is marked true, since its support would be allowed
  head_marked : (ρ : Rule) → In ρ R.rules → body_true trues A ρ ≡ true → (a : ℕ) → In a ρ.head → A a ≡ true → trues a ≡ true
  head_marked ρ i t a j e =
      let at = in_nth R.rules ρ i in
      let law = all_in (LawfulRule R.atoms) R.rules ρ lawful.each i in
      let support : Supports A m a ρ = record { inside = e; head = has_in ρ.head a j; body = true_holds R.atoms m A outside ρ law t } in
      elim (cases_Bool (is_unmarked (m a))) [
        | inl u ↦ absurd (settled (record { atom = a; reason = Support at.0 }) (record {
          atom = all_in (Atom R.atoms) ρ.head a law.heads j;
          unmarked = is_unmarked_lem (m a) u;
          grounds = rw at.2 support;
        }))
        | inr u ↦ rw e at (marked_as A m agree a u)
      ]

  head_unbroken : (ρ : Rule) → broken A ρ ≡ false → body_true trues A ρ ≡ true → head_broken A ρ.kind ρ.head ≡ false
  head_unbroken ρ b t = rw (true_more trues A A (λ a. agree a true) ρ t) at b

  pub keeps_all : KeepsAll R trues A
  keeps_all = all_from (λ ρ. keeps trues A ρ ≡ true) R.rules
      (λ ρ i. elim (cases_Bool (body_true trues A ρ)) [
        | inl t ↦ or_right (not (body_true trues A ρ)) _
            (head_keeps ρ.kind ρ.head (head_marked ρ i t) (head_unbroken ρ (all_in (λ σ. broken A σ ≡ false) R.rules ρ unbroken i) t))
        | inr f ↦ or_left (not (body_true trues A ρ)) _ (not_from_false _ f)
      ])

  -- so where A is an answer set, every atom is marked
  pub all_marked : AnswerSet R A → (a : ℕ) → Atom R.atoms a → is_unmarked (m a) ≡ false
  all_marked s a i = elim (cases_Bool (is_unmarked (m a))) [
    | inl u ↦ absurd (elim (cases_Bool (A a)) [
      | inl t ↦ s.smallest trues (record { part = λ b. agree b true; missing = a; inside = t; absent = ap (says true) (is_unmarked_lem (m a) u) }) keeps_all
      | inr f ↦ both_ways (says false (m a)) (ap (says false) (is_unmarked_lem (m a) u)) (outside a i f)
    ])
    | inr u ↦ u
  ]
