-- Pieces put into a list one after another are as one piece.
use Rattle.std.specs.Prelude.{◌≡◌, ℕ, ◌+◌, ◌≤◌, true, not, List, [], ◌∷◌, ◌++◌, length, nat_lt}
use Rattle.std.proofs.Common.{refl, length-append, set, sym, ap, ◌∙◌, add-zero, add-suc, suc-add, arith}
use Rattle.std.proofs.lemmas.Bool.{le-ltb, ltb-false, not-true}
use Rattle.std.proofs.lemmas.List.Edits.{sets}
use Rattle.std.proofs.Math.Seq.{length-sets}
use Rattle.base.specs.declared.pen.Pen.{Pen}
use Rattle.base.specs.Pens.{Page, page, has_room, with_items, filled}
use Rattle.base.specs.Sinks.{SinkLaws}

pub sets_append : {X : Type 0} (l : List X) (i : ℕ) (vs ws : List X) → sets l i (vs ++ ws) ≡ sets (sets l i vs) (i + length vs) ws
sets_append l i [] ws = rw add-zero
sets_append l i (v ∷ vs) ws = sets_append (set l i v) _ vs ws ∙ rw (suc-add, ← add-suc)

module _ {X : Type 0} where
  pub room_from : (P : Page X) (xs : List X) → P.at + length xs ≤ length P.list → has_room P xs ≡ true
  room_from P xs h = ap not (le-ltb (length P.list) (P.at + length xs) h)

  pub room_for : (P : Page X) (xs : List X) → has_room P xs ≡ true → P.at + length xs ≤ length P.list
  room_for P xs e = ltb-false (length P.list) (P.at + length xs) (not-true _ e)

  with_both : (P : Page X) (xs ys : List X) → with_items (with_items P xs) ys ≡ with_items P (xs ++ ys)
  with_both P xs ys =
      let place : P.at + length xs + length ys ≡ P.at + length (xs ++ ys) = omega (arith, length-append xs ys) in
      ap (λ l. record { list = l; at = P.at + length xs + length ys }) (sym (sets_append P.list P.at xs ys)) ∙ ap (λ k. record { list = sets P.list P.at (xs ++ ys); at = k }) place

  room_first : (P : Page X) (xs ys : List X) → has_room P (xs ++ ys) ≡ true → has_room P xs ≡ true
  room_first P xs ys e = room_from P xs (omega (arith, room_for P (xs ++ ys) e, length-append xs ys))

  room_rest : (P : Page X) (xs ys : List X) → has_room (with_items P xs) ys ≡ has_room P (xs ++ ys)
  room_rest P xs ys =
      let place : P.at + length xs + length ys ≡ P.at + length (xs ++ ys) = omega (arith, length-append xs ys) in
      ap (λ n. not (nat_lt n (P.at + length xs + length ys))) (length-sets P.list P.at xs) ∙ ap (λ k. not (nat_lt (length P.list) k)) place

  pub pen_laws : SinkLaws {S = Pen X} (λ p xs. has_room (page p) xs) filled
  pen_laws = record {
    nothing = λ p. (room_from (page p) [] (omega (arith, p.inside)), (ap (λ k. record { list = p.out.now; at = k }) (sym (add-zero p.at)), refl));
    first = λ p. room_first (page p);
    rest = λ p q xs ys h e. ap (λ P. has_room P ys) e.0 ∙ room_rest (page p) xs ys;
    both = λ p q r xs ys e f. (f.0 ∙ ap (λ P. with_items P ys) e.0 ∙ with_both (page p) xs ys, f.1 ∙ e.1);
  }
