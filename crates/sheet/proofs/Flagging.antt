-- The flags that a list of literals sets.
use Rattle.std.proofs.Common.{◌≡◌, ℕ, zero, suc, ◌<◌, ◌≤◌, Bool, true, false, ◌||◌, eqb, List, [], ◌∷◌, map, length, set, ℤ, pos, negsuc, nat_abs, None, sym, refl, ap, ◌∙◌, inl, inr, arith}
use mathlib.Core.Path.{fun_ext}
use Rattle.std.specs.List.{AllByRecursion as Each}
use Rattle.book.specs.Rules.{Rules}
use Rattle.std.proofs.Math.Bool.{or-false}
use Rattle.std.proofs.lemmas.List.{length-set, get_or-set_same, get_or-set_other}
use Rattle.std.proofs.lemmas.Bool.{cases_eq, eq-eqb, ne_eqb}
use Rattle.sheet.specs.Marks.{assuming}
use Rattle.sheet.specs.Open.{positives, negatives, first_fault}
use Rattle.sheet.proofs.Members.{all_from}
use Rattle.sheet.proofs.Opening.{known}
use Rattle.sheet.specs.Kept.{flagged, marking, with_positives, with_negatives, mark_assumed}

-- an atom is flagged afterwards if it was before, or if it is among the literals

flag_set : (flags : List Bool) (p a : ℕ) → p < length flags → flagged (set flags p true) a ≡ (eqb a p || flagged flags a)
flag_set flags p a l = elim (cases_eq a p) [
  | inl same ↦ ap (λ n. flagged (set flags p true) n) same ∙ get_or-set_same flags p true false l ∙ sym (ap (λ b. b || flagged flags a) (eq-eqb a p same))
  | inr other ↦ get_or-set_other flags p a true false other ∙ sym (ap (λ b. b || flagged flags a) (ne_eqb a p other))
]

or_shift : (x y z : Bool) → ((x || y) || z) ≡ (y || (x || z))
or_shift true true z = refl
or_shift true false z = refl
or_shift false y z = refl

abbrev Within : ℕ → ℤ → Type 0
Within n z = nat_abs z < n

pub positives_flagged : (zs : List ℤ) (flags : List Bool) (n : ℕ) → length flags ≡ n → Each (Within n) zs → (a : ℕ) → flagged (with_positives flags zs) a ≡ (flagged flags a || positives zs a)
positives_flagged [] flags n size l a = sym (or-false (flagged flags a))
positives_flagged (pos p ∷ zs) flags n size l a =
    positives_flagged zs (set flags p true) n (length-set flags p true ∙ size) l.1 a ∙ ap (λ b. b || positives zs a) (flag_set flags p a (omega (arith, l.0))) ∙ or_shift (eqb a p) (flagged flags a) (positives zs a)
positives_flagged (negsuc p ∷ zs) flags n size l a = positives_flagged zs flags n size l.1 a

pub negatives_flagged : (zs : List ℤ) (flags : List Bool) (n : ℕ) → length flags ≡ n → Each (Within n) zs → (a : ℕ) → flagged (with_negatives flags zs) a ≡ (flagged flags a || negatives zs a)
negatives_flagged [] flags n size l a = sym (or-false (flagged flags a))
negatives_flagged (pos p ∷ zs) flags n size l a = negatives_flagged zs flags n size l.1 a
negatives_flagged (negsuc p ∷ zs) flags n size l a =
    negatives_flagged zs (set flags (suc p) true) n (length-set flags (suc p) true ∙ size) l.1 a ∙ ap (λ b. b || negatives zs a) (flag_set flags (suc p) a (omega (arith, l.0))) ∙ or_shift (eqb a (suc p)) (flagged flags a) (negatives zs a)

pub assumed_marking : (flags : List Bool) (a : ℕ) → marking (map mark_assumed flags) a ≡ assuming (flagged flags) a
assumed_marking [] a = refl
assumed_marking (b ∷ flags) zero = refl
assumed_marking (b ∷ flags) (suc a) = assumed_marking flags a

-- a list without fault, put into flags of which none is set

module _ (R : Rules) (zs : List ℤ) (few : R.atoms ≤ 1024) (e : first_fault R zs ≡ None) (flags : List Bool) (size : length flags ≡ 1025) (none : (a : ℕ) → flagged flags a ≡ false) where
  in_range : Each (Within 1025) zs
  in_range = all_from (Within 1025) zs (λ z i. omega (arith, known R zs e z i, few))

  pub answer_put : flagged (with_positives flags zs) ≡ positives zs
  answer_put = fun_ext (λ a. positives_flagged zs flags 1025 size in_range a ∙ ap (λ b. b || positives zs a) (none a))

  pub assumed_put : flagged (with_negatives flags zs) ≡ negatives zs
  assumed_put = fun_ext (λ a. negatives_flagged zs flags 1025 size in_range a ∙ ap (λ b. b || negatives zs a) (none a))
