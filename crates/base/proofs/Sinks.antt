-- Pieces taken one after another.
use Rattle.std.proofs.Common.{◌≡◌, Bool, true, false, cond, List, [], ◌++◌, Ok, Err, Result, sym, refl, ap, ◌∙◌, subst}
use Rattle.base.specs.declared.short.TooShort.{TooShort}
use Rattle.base.specs.Sinks.{SinkLaws, Takes}

abbrev Answer : Type 0
Answer = Result (Unit {0}) TooShort

abbrev answered : Bool → Answer
answered b = cond b (Ok tt) (Err (record {}))

fits_by : (b : Bool) → Ok tt ≡ answered b → b ≡ true
fits_by true e = refl
fits_by false e = absurd cc

short_by : (b : Bool) (x : TooShort) → Err x ≡ answered b → b ≡ false
short_by true x e = absurd cc
short_by false x e = refl

not_first : (a b : Bool) → (a ≡ true → b ≡ true) → b ≡ false → a ≡ false
not_first true b h e = sym (h refl) ∙ e
not_first false b h e = refl

module _ {S X : Type 0} (fits : S → List X → Bool) (after : S → List X → S → Type 0) (laws : SinkLaws fits after) where
  pub takes_none : (s : S) (zs : List X) → zs ≡ [] → Takes fits after s zs (Ok tt) s
  takes_none s zs e =
      let n = laws.nothing s in
      subst (λ ys. Takes fits after s ys (Ok tt) s) (sym e) (record { tells = ap answered (sym n.0); taken = λ h. n.1 })

  both_taken : (s t u : S) (xs ys : List X) (first r : Answer) → first ≡ Ok tt → Takes fits after s xs first t → Takes fits after t ys r u → Takes fits after s (xs ++ ys) r u
  both_taken s t u xs ys first r ok one two =
      let e = fits_by (fits s xs) (sym ok ∙ one.tells) in
      let rest = laws.rest s t xs ys e (one.taken e) in
      record {
        tells = two.tells ∙ ap answered rest;
        taken = λ f. laws.both s t u xs ys (one.taken e) (two.taken (rest ∙ f));
      }

  first_refused : (s t u : S) (xs ys : List X) (x : TooShort) (first r : Answer) → first ≡ Err x → r ≡ Err x → Takes fits after s xs first t → Takes fits after s (xs ++ ys) r u
  first_refused s t u xs ys x first r e same one =
      let short = short_by (fits s xs) x (sym e ∙ one.tells) in
      let none = not_first (fits s (xs ++ ys)) (fits s xs) (laws.first s xs ys) short in
      record {
        tells = same ∙ sym e ∙ one.tells ∙ ap answered (short ∙ sym none);
        taken = λ f. absurd cc;
      }

  module _ {s t u : S} (xs ys zs : List X) (whole : zs ≡ xs ++ ys) {first r : Answer} where
    -- a piece, and then the rest
    pub takes_then : first ≡ Ok tt → Takes fits after s xs first t → Takes fits after t ys r u → Takes fits after s zs r u
    takes_then ok one two = subst (λ bs. Takes fits after s bs r u) (sym whole) (both_taken s t u xs ys first r ok one two)

    -- where a piece is refused, so is the whole
    pub takes_refused : {x : TooShort} → first ≡ Err x → r ≡ Err x → Takes fits after s xs first t → Takes fits after s zs r u
    takes_refused {x = x} e same one = subst (λ bs. Takes fits after s bs r u) (sym whole) (first_refused s t u xs ys x first r e same one)
