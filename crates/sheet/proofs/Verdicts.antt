-- A proposal is refused for nothing exactly where it is allowed; and what is allowed stays so with more marks.
use Rattle.std.proofs.Common.{◌≡◌, ℕ, Bool, true, false, not, leb, ◌↔◌, is_ok, Some, None, Ok, Err, Option, refl, ap, ◌∙◌, inl, inr}
use Rattle.std.proofs.ByRecursion.{All-weaker}
use Rattle.std.proofs.lemmas.Bool.{false≢true, and_parts, and_from, and_left, and_right, leb-true, le-leb, not-false, not_from_true, cond-false, cond-true, cases_Bool}
use Rattle.base.proofs.Verdicts.{ok_unless}
use Rattle.book.specs.Rules.{Rule, Rules, rule_at, Atom}
use Rattle.sheet.specs.declared.error.SheetError.{SheetError}
use Rattle.sheet.specs.declared.error.SheetError.TheVariants.{UnknownAtom, AlreadyMarked, WrongSide, UnsuitableRule, MissingGround}
use Rattle.sheet.specs.declared.proposal.Reason.{Reason}
use Rattle.sheet.specs.declared.proposal.Reason.TheVariants.{Support, Lack, Required}
use Rattle.sheet.specs.declared.proposal.Proposal.{Proposal}
use Rattle.sheet.specs.Lists.{has}
use Rattle.sheet.specs.Marks.{Atoms, Marks, is_atom, is_unmarked}
use Rattle.sheet.specs.Bodies.{body_holds, body_fails, body_holds_but, in_body, first_missing, first_missing_but}
use Rattle.sheet.specs.Allowed.{is_constraint, Supports, Requires, There, Grounds, Allowed}
use Rattle.sheet.specs.Verdicts.{fits_support, fits_required, unfailing, first_unfailing, unless_at, rule_verdict, reason_verdict, verdict}
use Rattle.sheet.proofs.Searches.{none_at, at_none}
use Rattle.sheet.proofs.Agreement.{Part, is_unmarked_lem, there, there_more}
use Rattle.sheet.proofs.Bodies.{body_holds_more, body_fails_more, body_holds_but_more, holds_missing, holds_but_missing}

pub is_atom_lem : (R : Rules) (a : ℕ) → Atom R.atoms a → is_atom R a ≡ true
is_atom_lem R a h = and_from (leb 1 a) (leb a R.atoms) (le-leb 1 a h.0) (le-leb a R.atoms h.1)

pub atom_is : (R : Rules) (a : ℕ) → is_atom R a ≡ true → Atom R.atoms a
atom_is R a e = let h = and_parts (leb 1 a) (leb a R.atoms) e in (leb-true 1 a h.0, leb-true a R.atoms h.1)

-- monotony
pub grounds_more : (R : Rules) (A : Atoms) (m n : Marks) → Part m n → (p : ℕ) (w : Reason) → Grounds R A m p w → Grounds R A n p w
grounds_more R A m n h p (Support rule) g =
    there_more (Supports A m p) (Supports A n p) (λ ρ s. record { inside = s.inside; head = s.head; body = body_holds_more m n h ρ s.body }) (rule_at R rule) g
grounds_more R A m n h p Lack g = record {
  outside = g.outside;
  failing = All-weaker (λ ρ. has ρ.head p ≡ true → body_fails m ρ ≡ true) (λ ρ. has ρ.head p ≡ true → body_fails n ρ ≡ true)
      (λ ρ f e. body_fails_more m n h ρ (f e)) R.rules g.failing;
}
grounds_more R A m n h p (Required rule) g =
    there_more (Requires A m p) (Requires A n p)
    (λ ρ s. record { outside = s.outside; constraint = s.constraint; positive = s.positive; others = body_holds_but_more m n h ρ p s.others }) (rule_at R rule) g

-- nothing found, and so nothing refused
nowhere : (o : Option ℕ) (refusal : ℕ → SheetError) → is_ok (unless_at o refusal) ≡ true → o ≡ None
nowhere None refusal h = refl
nowhere (Some place) refusal h = absurd (false≢true h)

-- a rule that fits, and whose body is as it should be, is refused for nothing
module _ (rule : ℕ) (fits holding : Rule → Bool) (missing : Option Rule → Option ℕ) (law : (ρ : Rule) → (missing (Some ρ) ≡ None) ↔ (holding ρ ≡ true)) where
  abbrev Suits : Rule → Type 0
  Suits ρ = (fits ρ ≡ true) × (holding ρ ≡ true)

  rule_suits : (o : Option Rule) → is_ok (rule_verdict rule fits missing o) ≡ true → There o Suits
  rule_suits None h = absurd (false≢true h)
  rule_suits (Some ρ) h =
      let s = ok_unless (not (fits ρ)) (UnsuitableRule rule) (unless_at (missing (Some ρ)) (MissingGround rule)) h in
      (not-false (fits ρ) s.0, (law ρ).0 (nowhere (missing (Some ρ)) (MissingGround rule) s.1))

  suits_rule : (o : Option Rule) → There o Suits → rule_verdict rule fits missing o ≡ Ok tt
  suits_rule None h = absurd h
  suits_rule (Some ρ) h =
      cond-false (not (fits ρ)) _ _ (not_from_true (fits ρ) h.0) ∙ ap (λ o. unless_at o (MissingGround rule)) ((law ρ).1 h.1)

module _ (m : Marks) (p : ℕ) where
  failing_from : (ρ : Rule) → unfailing m p ρ ≡ false → has ρ.head p ≡ true → body_fails m ρ ≡ true
  failing_from ρ e h = not-false (body_fails m ρ) (rw h at e)

  from_failing : (ρ : Rule) → (has ρ.head p ≡ true → body_fails m ρ ≡ true) → unfailing m p ρ ≡ false
  from_failing ρ f = elim (cases_Bool (has ρ.head p)) [
    | inl h ↦ and_right (has ρ.head p) (not (body_fails m ρ)) (not_from_true (body_fails m ρ) (f h))
    | inr h ↦ and_left (has ρ.head p) (not (body_fails m ρ)) h
  ]

module _ (R : Rules) (A : Atoms) (m : Marks) where
  module _ (p : ℕ) where
    reason_grounds : (w : Reason) → is_ok (reason_verdict R A m p w) ≡ true → Grounds R A m p w
    unfolding first_unfailing
    reason_grounds (Support rule) h =
        let law = holds_missing m in
        let s = ok_unless (not (A p)) WrongSide (rule_verdict rule (fits_support p) (first_missing m) (rule_at R rule)) h in
        there_more (Suits rule (fits_support p) (body_holds m) (first_missing m) law) (Supports A m p) (λ ρ g. record { inside = not-false (A p) s.0; head = g.0; body = g.1 })
        (rule_at R rule) (rule_suits rule (fits_support p) (body_holds m) (first_missing m) law (rule_at R rule) s.1)
    reason_grounds Lack h =
        let s = ok_unless (A p) WrongSide (unless_at (first_unfailing R m p) (λ rule. MissingGround rule 0)) h in
        record {
          outside = s.0;
          failing = All-weaker (λ ρ. unfailing m p ρ ≡ false) (λ ρ. has ρ.head p ≡ true → body_fails m ρ ≡ true) (failing_from m p) R.rules
              (none_at (unfailing m p) R.rules (nowhere (first_unfailing R m p) (λ rule. MissingGround rule 0) s.1));
        }
    reason_grounds (Required rule) h =
        let law = holds_but_missing p m in
        let s = ok_unless (A p) WrongSide (rule_verdict rule (fits_required p) (first_missing_but p m) (rule_at R rule)) h in
        there_more (Suits rule (fits_required p) (body_holds_but p m) (first_missing_but p m) law) (Requires A m p)
        (λ ρ g. let f = and_parts (is_constraint ρ) (in_body p ρ) g.0 in record { outside = s.0; constraint = f.0; positive = f.1; others = g.1 })
        (rule_at R rule) (rule_suits rule (fits_required p) (body_holds_but p m) (first_missing_but p m) law (rule_at R rule) s.1)

    grounds_reason : (w : Reason) → Grounds R A m p w → reason_verdict R A m p w ≡ Ok tt
    unfolding first_unfailing
    grounds_reason (Support rule) g =
        let at = there (Supports A m p) (Supports A m p) (rule_at R rule) g in
        let law = holds_missing m in
        cond-false (not (A p)) _ _ (not_from_true (A p) at.2.inside) ∙
        suits_rule rule (fits_support p) (body_holds m) (first_missing m) law (rule_at R rule)
        (there_more (Supports A m p) (Suits rule (fits_support p) (body_holds m) (first_missing m) law) (λ ρ s. (s.head, s.body)) (rule_at R rule) g)
    grounds_reason Lack g =
        cond-false (A p) _ _ g.outside ∙
        ap (λ o. unless_at o (λ rule. MissingGround rule 0))
        (at_none (unfailing m p) R.rules
        (All-weaker (λ ρ. has ρ.head p ≡ true → body_fails m ρ ≡ true) (λ ρ. unfailing m p ρ ≡ false) (from_failing m p) R.rules g.failing))
    grounds_reason (Required rule) g =
        let at = there (Requires A m p) (Requires A m p) (rule_at R rule) g in
        let law = holds_but_missing p m in
        cond-false (A p) _ _ at.2.outside ∙
        suits_rule rule (fits_required p) (body_holds_but p m) (first_missing_but p m) law (rule_at R rule)
        (there_more (Requires A m p) (Suits rule (fits_required p) (body_holds_but p m) (first_missing_but p m) law)
        (λ ρ s. (and_from (is_constraint ρ) (in_body p ρ) s.constraint s.positive, s.others)) (rule_at R rule) g)

  module _ (P : Proposal) where
    pub verdict_allowed : is_ok (verdict R A m P) ≡ true → Allowed R A m P
    unfolding verdict
    verdict_allowed h =
        let s = ok_unless (not (is_atom R P.atom)) (UnknownAtom 0) _ h in
        let t = ok_unless (not (is_unmarked (m P.atom))) AlreadyMarked (reason_verdict R A m P.atom P.reason) s.1 in
        record {
          atom = atom_is R P.atom (not-false (is_atom R P.atom) s.0);
          unmarked = is_unmarked_lem (m P.atom) (not-false (is_unmarked (m P.atom)) t.0);
          grounds = reason_grounds P.atom P.reason t.1;
        }

    pub allowed_verdict : Allowed R A m P → verdict R A m P ≡ Ok tt
    unfolding verdict
    allowed_verdict h =
        cond-false (not (is_atom R P.atom)) _ _ (not_from_true (is_atom R P.atom) (is_atom_lem R P.atom h.atom)) ∙
        cond-false (not (is_unmarked (m P.atom))) _ _ (not_from_true (is_unmarked (m P.atom)) (ap is_unmarked h.unmarked)) ∙
        grounds_reason P.atom P.reason h.grounds

    -- an atom of the book that is marked
    pub marked_verdict : Atom R.atoms P.atom → is_unmarked (m P.atom) ≡ false → verdict R A m P ≡ Err AlreadyMarked
    unfolding verdict
    marked_verdict i u =
        cond-false (not (is_atom R P.atom)) _ _ (not_from_true (is_atom R P.atom) (is_atom_lem R P.atom i)) ∙
        cond-true (not (is_unmarked (m P.atom))) _ _ (ap not u)
