-- The lists of a sheet, and the sets and marks that they keep.
use Rattle.std.proofs.Common.{◌≡◌, ℕ, zero, suc, ◌+◌, ◌<◌, ◌≤◌, Bool, true, false, cond, eqb, List, [], ◌∷◌, ◌++◌, map, length, take, drop, set, replicate, sym, refl, ap, ◌∙◌, subst, inl, inr, arith, length-drop}
use mathlib.Core.Path.{fun_ext}
use lib.ListN.{length-map}
use Rattle.std.proofs.ByRecursion.{All-take}
use Rattle.std.specs.List.{AllByRecursion as Each}
use Rattle.std.proofs.lemmas.List.{length-set, take-append-drop, get_or_past, get_or-set_same, get_or-set_other}
use Rattle.std.proofs.lemmas.Bool.{cases_eq, cases_lt, eq-eqb, ne_eqb, cond-true, cond-false, true≢false}
use Rattle.sheet.specs.declared.mark.Mark.{Mark}
use Rattle.sheet.specs.declared.mark.Mark.TheVariants.{Unmarked}
use Rattle.sheet.specs.declared.proposal.Proposal.{Proposal}
use Rattle.sheet.specs.Lists.{how_many}
use Rattle.sheet.specs.Marks.{Atoms, Marks, is_unmarked, claim, mark_for, marked, marked_all, assuming}
use Rattle.sheet.specs.States.{State}
use Rattle.sheet.specs.Strike.{is_of}
use Rattle.sheet.specs.Law.{has_entry}
use Rattle.sheet.specs.Kept.{flagged, marking, unmarked_in, with_marks, mark_assumed}
use Rattle.sheet.proofs.Members.{all_from, some_from}
use Rattle.sheet.proofs.MarkedAtoms.{entry_marks}
use Rattle.sheet.proofs.Flagging.{assumed_marking}
use Rattle.sheet.proofs.Counts.{count_all, count_less, count_one_less}
use Rattle.sheet.proofs.Agreement.{unmarked_before, part_marked, marks_append}

pub no_flag : (n a : ℕ) → flagged (replicate n false) a ≡ false
no_flag zero a = refl
no_flag (suc n) zero = refl
no_flag (suc n) (suc a) = no_flag n a

pub no_mark : (n a : ℕ) → marking (replicate n Unmarked) a ≡ Unmarked
no_mark zero a = refl
no_mark (suc n) zero = refl
no_mark (suc n) (suc a) = no_mark n a

abbrev pub state_from : Bool → Atoms → Atoms → List Proposal → State
state_from opened A X es = record { opened = opened; answer = A; assumed = X; entries = es }

pub unmarked_most : (ms : List Mark) → unmarked_in ms ≤ 1024
unfolding unmarked_in
unmarked_most ms = count_all (λ a. is_unmarked (marking ms a)) 1024

claimed : (b : Bool) → is_unmarked (mark_for b) ≡ false
claimed true = refl
claimed false = refl

marked_now : (m : Marks) (P : Proposal) → is_unmarked (marked m P P.atom) ≡ false
marked_now m P = ap is_unmarked (cond-true (eqb P.atom P.atom) (mark_for (claim P.reason)) (m P.atom) (eq-eqb P.atom P.atom refl)) ∙ claimed (claim P.reason)

-- setting an item of the list of marks is marking an atom
pub mark_set : (ms : List Mark) (P : Proposal) → P.atom < length ms → marking (set ms P.atom (mark_for (claim P.reason))) ≡ marked (marking ms) P
mark_set ms P l = fun_ext (λ a. elim (cases_eq a P.atom) [
  | inl q ↦ rw q (get_or-set_same ms P.atom (mark_for (claim P.reason)) Unmarked l ∙ sym (cond-true (eqb P.atom P.atom) _ _ (eq-eqb P.atom P.atom refl)))
  | inr q ↦ get_or-set_other ms P.atom a (mark_for (claim P.reason)) Unmarked q ∙ sym (cond-false (eqb a P.atom) _ _ (ne_eqb a P.atom q))
])

-- marking an unmarked atom
module _ (ms : List Mark) (P : Proposal) (l : P.atom < length ms) where
  pub unmarked_less : 1 ≤ P.atom → P.atom ≤ 1024 → marking ms P.atom ≡ Unmarked → unmarked_in (set ms P.atom (mark_for (claim P.reason))) < unmarked_in ms
  unfolding unmarked_in
  unmarked_less low high u =
      subst (λ m. how_many (λ a. is_unmarked (m a)) 1024 < how_many (λ a. is_unmarked (marking ms a)) 1024) (sym (mark_set ms P l))
      (count_less (λ a. is_unmarked (marking ms a)) (λ a. is_unmarked (marked (marking ms) P a)) (unmarked_before (marking ms) (marked (marking ms) P) (part_marked (marking ms) P u))
      1024 P.atom (low, high) (ap is_unmarked u) (marked_now (marking ms) P))

  pub push_tied : (m : Marks) (es fs : List Proposal) → ((a : ℕ) → marking ms a ≡ marked_all m es a) → fs ≡ es ++ (P ∷ []) → (a : ℕ) → marking (set ms P.atom (mark_for (claim P.reason))) a ≡ marked_all m fs a
  push_tied m es fs tied e a =
      ap (λ n. n a) (mark_set ms P l) ∙ ap (λ n. marked n P a) (fun_ext tied) ∙ sym (ap (λ n. n a) (marks_append m es (P ∷ []))) ∙ ap (λ l. marked_all m l a) (sym e)

-- Marking again from the assumed atoms on.

pub marks_again : (es : List Proposal) (ms : List Mark) (m : Marks) (n : ℕ) → length ms ≡ n → Each (λ P. P.atom < n) es → ((a : ℕ) → marking ms a ≡ m a) → (a : ℕ) → marking (with_marks ms es) a ≡ marked_all m es a
marks_again [] ms m n size l tied a = tied a
marks_again (P ∷ es) ms m n size l tied a =
    marks_again es (set ms P.atom (mark_for (claim P.reason))) (marked m P) n (length-set ms P.atom _ ∙ size) l.1
    (λ b. ap (λ f. f b) (mark_set ms P (omega (arith, l.0))) ∙ ap (λ f. marked f P b) (fun_ext tied)) a

-- an entry's atom is marked, so it has a place in the list
pub entries_in_range : (ms : List Mark) (m : Marks) (es : List Proposal) → ((a : ℕ) → marking ms a ≡ marked_all m es a) → Each (λ P. P.atom < length ms) es
entries_in_range ms m es tied =
    all_from (λ P. P.atom < length ms) es (λ P i. elim (cases_lt P.atom (length ms)) [
      | inl l ↦ l
      | inr past ↦
          let own : has_entry es P.atom ≡ true = some_from (is_of P.atom) es P i (eq-eqb P.atom P.atom refl) in
          let is_marked : is_unmarked (marked_all m es P.atom) ≡ false = entry_marks m es P.atom ∙ ap (λ b. cond b false (is_unmarked (m P.atom))) own in
          absurd (true≢false (ap is_unmarked (sym (get_or_past ms P.atom Unmarked past)) ∙ ap is_unmarked (tied P.atom) ∙ is_marked))
    ])

-- one entry marks at most one atom

one_less : (m : Marks) (P : Proposal) (n : ℕ) → how_many (λ a. is_unmarked (m a)) n ≤ suc (how_many (λ a. is_unmarked (marked m P a)) n)
one_less m P n = count_one_less (λ a. is_unmarked (m a)) (λ a. is_unmarked (marked m P a)) P.atom (λ a other. ap is_unmarked (sym (cond-false (eqb a P.atom) _ _ (ne_eqb a P.atom other)))) n

few_less : (m : Marks) (es : List Proposal) (n : ℕ) → how_many (λ a. is_unmarked (m a)) n ≤ length es + how_many (λ a. is_unmarked (marked_all m es a)) n
few_less m [] n = omega arith
few_less m (P ∷ es) n = omega (arith, one_less m P n, few_less (marked m P) es n)

-- with the last entries taken off there is still room
pub room_above : (m : Marks) (es : List Proposal) (k : ℕ) (ms ns : List Mark) → k ≤ length es → ((a : ℕ) → marking ms a ≡ marked_all m es a) → ((a : ℕ) → marking ns a ≡ marked_all m (take k es) a) → length es + unmarked_in ms ≤ 1024 → k + unmarked_in ns ≤ 1024
unfolding unmarked_in
room_above m es k ms ns l tied above room =
    let rest = drop k es in
    let whole : marked_all m es ≡ marked_all (marked_all m (take k es)) rest = ap (marked_all m) (sym (take-append-drop k es)) ∙ marks_append m (take k es) rest in
    let now_marked : marking ms ≡ marked_all (marked_all m (take k es)) rest = fun_ext tied ∙ whole in
    let then_marked : marking ns ≡ marked_all m (take k es) = fun_ext above in
    omega (arith, length-drop k es, few_less (marked_all m (take k es)) rest 1024, ap (λ f. how_many (λ a. is_unmarked (f a)) 1024) now_marked, ap (λ f. how_many (λ a. is_unmarked (f a)) 1024) then_marked)

-- the marks of the assumed atoms and the first entries, put again
pub again_above : (assumed : List Bool) (es : List Proposal) (k : ℕ) (ms : List Mark) → length ms ≡ 1025 → length assumed ≡ 1025 → ((a : ℕ) → marking ms a ≡ marked_all (assuming (flagged assumed)) es a) → (a : ℕ) → marking (with_marks (map mark_assumed assumed) (take k es)) a ≡ marked_all (assuming (flagged assumed)) (take k es) a
again_above assumed es k ms size as_many tied =
    marks_again (take k es) (map mark_assumed assumed) (assuming (flagged assumed)) 1025 (length-map assumed mark_assumed ∙ as_many)
    (All-take (λ P. P.atom < 1025) k es (subst (λ n. Each (λ P. P.atom < n) es) size (entries_in_range ms (assuming (flagged assumed)) es tied))) (assumed_marking assumed)
