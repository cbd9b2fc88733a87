-- From what a call's parts say to what the call leaves.
use Rattle.std.proofs.Common.{◌≡◌, ℕ, ◌<◌, ◌≤◌, true, false, not, List, [], length, set, ℤ, is_ok, Some, None, Ok, Err, Option, sym, ap, ◌∙◌, subst, arith}
use mathlib.Core.Path.{fun_ext}
use Rattle.std.proofs.lemmas.Bool.{cond-false, not_from_true}
use Rattle.book.specs.Rules.{Rules, Lawful}
use Rattle.sheet.specs.declared.error.SheetError.TheVariants.{ViolatedRule}
use Rattle.sheet.specs.declared.mark.Mark.{Mark}
use Rattle.sheet.specs.declared.proposal.Proposal.{Proposal}
use Rattle.sheet.specs.Complete.{completed, unmarked, complete_call}
use Rattle.sheet.specs.Lists.{how_many}
use Rattle.sheet.specs.Marks.{Atoms, Marks, is_unmarked, claim, mark_for}
use Rattle.sheet.specs.States.{State, marks, After}
use Rattle.sheet.specs.Verdicts.{verdict}
use Rattle.sheet.specs.Open.{positives, negatives, first_fault, first_broken, open_rules, open_list, open_call}
use Rattle.sheet.specs.Kept.{marking, unmarked_in}
use Rattle.sheet.proofs.Stored.{state_from, unmarked_less}
use Rattle.sheet.proofs.Verdicts.{verdict_allowed}
use Rattle.sheet.specs.Sound.{Sound}
use Rattle.sheet.specs.Law.{SoundAndReliable}
use Rattle.sheet.specs.View.{View, Left, leaving}
use Rattle.sheet.proofs.Law.{sound_reliable}

abbrev pub viewed : Rules → State → View
viewed R s = record { rules = R; state = s }

-- an atom that is allowed has a place in the list of marks, and leaves one unmarked atom less
pub record Placed (ms : List Mark) (P : Proposal) : Type 0 where
  pub within : P.atom < length ms
  pub less : unmarked_in (set ms P.atom (mark_for (claim P.reason))) < unmarked_in ms

pub placed : (R : Rules) (A : Atoms) (m : Marks) (ms : List Mark) (P : Proposal) → R.atoms ≤ 1024 → length ms ≡ 1025 → ((a : ℕ) → marking ms a ≡ m a) → Ok tt ≡ verdict R A m P → Placed ms P
placed R A m ms P few size tied e =
    let allowed = verdict_allowed R A m P (ap is_ok (sym e)) in
    let within : P.atom < length ms = omega (arith, allowed.atom, few, size) in
    record { within = within; less = unmarked_less ms P within allowed.atom.0 (omega (arith, allowed.atom, few)) (tied P.atom ∙ allowed.unmarked) }

-- Opening.

module _ (R : Rules) (s : State) (zs : List ℤ) (shut : s.opened ≡ false) (faultless : first_fault R zs ≡ None) where
  by_broken : (o : Option ℕ) → o ≡ first_broken R (positives zs) → open_rules s zs o ≡ open_call R s zs
  by_broken o e = ap (open_rules s zs) e ∙ ap (open_list R s zs) (sym faultless) ∙ sym (cond-false s.opened _ _ shut)

  pub open_takes : (A X : Atoms) (es : List Proposal) → A ≡ positives zs → X ≡ negatives zs → es ≡ [] → None ≡ first_broken R A → ◌≡◌ {A = Left (Unit {0})} (Ok tt, viewed R (state_from true A X es)) (leaving (λ Q t. open_call Q t zs) (viewed R s))
  open_takes A X es a x e none =
      ap (λ B. (Ok tt, viewed R (state_from true B X es))) a ∙ ap (λ Y. (Ok tt, viewed R (state_from true (positives zs) Y es))) x ∙ ap (λ fs. (Ok tt, viewed R (state_from true (positives zs) (negatives zs) fs))) e
      ∙ ap (λ (o : After (Unit {0})). (o.0, viewed R o.1)) (by_broken None (none ∙ ap (first_broken R) a))

  pub open_violates : (A B Y : Atoms) (rule : ℕ) → A ≡ positives zs → B ≡ s.answer → Y ≡ s.assumed → Some rule ≡ first_broken R A → ◌≡◌ {A = Left (Unit {0})} (Err (ViolatedRule rule), viewed R (state_from s.opened B Y s.entries)) (leaving (λ Q t. open_call Q t zs) (viewed R s))
  open_violates A B Y rule a b y found =
      ap (λ C. (Err (ViolatedRule rule), viewed R (state_from s.opened C Y s.entries))) b ∙ ap (λ Z. (Err (ViolatedRule rule), viewed R (state_from s.opened s.answer Z s.entries))) y
      ∙ ap (λ (o : After (Unit {0})). (o.0, viewed R o.1)) (by_broken (Some rule) (found ∙ ap (first_broken R) a))

-- Completing.

pub complete_takes : (R : Rules) (s : State) → s.opened ≡ true → (w : View) (ms : List Mark) (n : ℕ) → w ≡ viewed R (completed R s) → ((a : ℕ) → marking ms a ≡ marks w.state a) → n ≡ how_many (λ a. is_unmarked (marking ms a)) R.atoms → ◌≡◌ {A = Left ℕ} (Ok n, w) (leaving complete_call (viewed R s))
complete_takes R s is_open w ms n done tied count =
    let counted : n ≡ unmarked R (marks w.state) = count ∙ ap (λ m. unmarked R m) (fun_ext tied) in
    ap (λ k. (Ok k, w)) counted ∙ ap (λ (x : View). (Ok (unmarked R (marks x.state)), x)) done
    ∙ ap (λ (o : After ℕ). (o.0, viewed R o.1)) (sym (cond-false (not s.opened) _ (Ok (unmarked R (marks (completed R s))), completed R s) (not_from_true s.opened is_open)))

-- Whatever a call leaves of a sound sheet can be relied on.

pub relied : (v : View) → Lawful v.rules → Sound v.rules v.state → SoundAndReliable v
relied v lawful k = record { sound = k; reliable = sound_reliable v.rules lawful v.state k }

pub stays : (R : Rules) (t : State) (w : View) → Lawful R → w ≡ viewed R t → Sound R t → SoundAndReliable w
stays R t w lawful e k = subst SoundAndReliable (sym e) (relied (viewed R t) lawful k)
