-- The values of a row, one after another, and the greatest of them.
use Rattle.std.proofs.Common.{◌≡◌, ℕ, suc, max, true, List, [], ◌∷◌, ℤ, is_ok, Ok, Err, Result, unwrap_or, sym, refl, ap, ◌∙◌, arith}
use denote.Ref.{Bor}
use Rattle.std.specs.List.{fold, reduce}
use Rattle.aspif.specs.declared.error.TextError.{TextError}
use Rattle.reader.specs.Cursors.{Reads}
use Rattle.reader.specs.Fields.{and_then, stepped, Field, field_to}
use Rattle.reader.specs.Rows.{Row, item_at, before, row_at, row_values}
use Rattle.reader.specs.Statements.{greatest}
use Rattle.reader.specs.Seen.{numbers_in}
use Rattle.reader.specs.declared.cursor.Cursor.{Cursor}
use Rattle.reader.specs.declared.statement.Numbers.{Numbers}
use Rattle.reader.specs.declared.pieces.Items.{Items}

-- the first number of a row, and the numbers after it

pub before_ok : (z : ℤ) (r : Result Row TextError) → is_ok (before z r) ≡ true → (is_ok r ≡ true) × (row_values (before z r) ≡ z ∷ row_values r)
before_ok z (Ok r) h = (refl, refl)
before_ok z (Err e) h = absurd cc

item_first : (s : Result Field TextError) (k : ℕ → Result Row TextError) (f : Field) → Ok f ≡ s → is_ok (and_then s (λ g. before g.value (k g.next))) ≡ true → (is_ok (k f.next) ≡ true) × (row_values (and_then s (λ g. before g.value (k g.next))) ≡ f.value ∷ row_values (k f.next))
item_first s k f e o =
    let here = ap (λ t. and_then t (λ g. before g.value (k g.next))) e in
    let b = before_ok f.value (k f.next) (ap is_ok here ∙ o) in
    (b.0, sym (ap row_values here) ∙ b.1)

item_ok : {V : Type 0} (f : V → ℕ → Field) (r : Result V TextError) (next : ℕ) (s : Result Field TextError) (k : ℕ → Result Row TextError) → stepped f r next ≡ s → is_ok (and_then s (λ g. before g.value (k g.next))) ≡ true → is_ok r ≡ true
item_ok f (Ok v) next s k e o = refl
item_ok f (Err x) next s k e o = ap (λ t. is_ok (and_then t (λ g. before g.value (k g.next)))) e ∙ o

pub record FirstOf (ns : Numbers) (more : ℕ) (start : Cursor) (z : ℤ) : Type 0 where
  pub reads : is_ok (row_at ns.items more start.text.now start.at) ≡ true
  pub values : numbers_in ns ≡ z ∷ row_values (row_at ns.items more start.text.now start.at)

-- a cursor that read the first number, and so stands before the others
module _ (ns : Numbers) (more : ℕ) (one : ns.count ≡ suc more) (r : Result ℤ TextError) (start : Cursor) (item : Reads (field_to ns.start.text.now) (item_at ns.items more) ns.start r start) where
  abbrev first : Result Field TextError
  first = item_at ns.items more ns.start.text.now ns.start.at

  abbrev after : ℕ → Result Row TextError
  after = row_at ns.items more ns.start.text.now

  reads_on : is_ok (and_then first (λ g. before g.value (after g.next))) ≡ true
  unfolding row_at
  reads_on = ap (λ k. is_ok (row_at ns.items k ns.start.text.now ns.start.at)) (sym one) ∙ ns.reads

  pub is_read : is_ok r ≡ true
  is_read = item_ok (field_to ns.start.text.now) r start.at first after item.tells reads_on

  pub first_of : (z : ℤ) → Ok z ≡ r → FirstOf ns more start z
  unfolding row_at
  first_of z e =
      let to = field_to ns.start.text.now in
      let p = item_first first after (to z start.at) (ap (λ q. stepped to q start.at) e ∙ item.tells) reads_on in
      record {
        reads = ap (λ (t : Bor (List ℕ)). is_ok (row_at ns.items more t.now start.at)) item.same_text ∙ p.0;
        values = ap (λ k. row_values (row_at ns.items k ns.start.text.now ns.start.at)) one ∙ p.1 ∙ ap (λ (t : Bor (List ℕ)). z ∷ row_values (row_at ns.items more t.now start.at)) (sym item.same_text);
      }

pub none_first : (items : Items) (n : ℕ) (text : List ℕ) (at : ℕ) → n ≡ 0 → row_values (row_at items n text at) ≡ []
unfolding row_at
none_first items n text at e = ap (λ k. row_values (row_at items k text at)) e

-- the greatest of a list

top_from : (a : ℕ) (xs : List ℕ) → fold max a xs ≡ max a (greatest xs)
top_from a [] = omega arith
top_from a (x ∷ xs) = let e : max (max a x) (greatest xs) ≡ max a (max x (greatest xs)) = omega arith in top_from (max a x) xs ∙ e

pub top_greatest : (xs : List ℕ) → unwrap_or (reduce max xs) 0 ≡ greatest xs
top_greatest [] = refl
top_greatest (x ∷ xs) = top_from x xs
