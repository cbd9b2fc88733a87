-- What a book that keeps the limits can answer.
use Rattle.std.proofs.Common.{◌≡◌, ℕ, zero, suc, ◌≤◌, List, [], ◌∷◌, ℤ, FitsSigned, w32, Some, None, Option, subst, arith}
use Rattle.std.specs.List.{AllByRecursion as Each, slice_get}
use Rattle.std.proofs.lemmas.Int.{fits_signed_from_abs}
use Rattle.book.specs.Rules.{Rule, Rules, Lawful, LawfulRule, Literal, head_limit, rule_at, body_literal}
use Rattle.book.specs.declared.kind.Kind.{Kind}
use Rattle.book.specs.declared.kind.Kind.TheVariants.{Plain, Choice}

pub all_nth : {X : Type 0} (P : X → Type 0) (xs : List X) (i : ℕ) (x : X) → Each P xs → Some x ≡ slice_get xs i → P x
all_nth P [] i x h e = absurd cc
all_nth P (y ∷ xs) zero x h e = let s : y ≡ x = cc in subst P s h.0
all_nth P (y ∷ xs) (suc i) x h e = all_nth P xs i x h.1 e

pub limit_255 : (k : Kind) → head_limit k ≤ 255
limit_255 Plain = omega arith
limit_255 Choice = omega arith

-- a rule that is there keeps the limits
abbrev LawfulIn : ℕ → Option Rule → Type 0
LawfulIn n None = Unit {0}
LawfulIn n (Some ρ) = LawfulRule n ρ

lawful_in : (n : ℕ) (ρs : List Rule) (i : ℕ) → Each (LawfulRule n) ρs → LawfulIn n (slice_get ρs i)
lawful_in n [] i l = tt
lawful_in n (ρ ∷ ρs) zero l = l.0
lawful_in n (ρ ∷ ρs) (suc i) l = lawful_in n ρs i l.1

-- a literal of such a rule is one of the book
literal_in : (n : ℕ) (o : Option Rule) (at : ℕ) (z : ℤ) → LawfulIn n o → Some z ≡ body_literal o at → Literal n z
literal_in n None at z l e = absurd cc
literal_in n (Some ρ) at z l e = all_nth (Literal n) ρ.body at z l.literals e

module _ (R : Rules) (l : Lawful R) (rule : ℕ) where
  here : LawfulIn R.atoms (rule_at R rule)
  here = lawful_in R.atoms R.rules rule l.each

  -- a literal is a number of 32 bits
  pub literal_fits : (at : ℕ) (z : ℤ) → Some z ≡ body_literal (rule_at R rule) at → FitsSigned w32 z
  literal_fits at z e = fits_signed_from_abs w32 z (omega (arith, literal_in R.atoms (rule_at R rule) at z here e, l.few_atoms))
