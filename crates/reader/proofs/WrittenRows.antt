-- A row of numbers is read at a place exactly where it is written there.
use Rattle.std.proofs.Common.{◌≡◌, ℕ, zero, suc, ◌+◌, ◌^◌, ◌<◌, true, cond, List, [], ◌∷◌, ◌++◌, length, drop, ℤ, pos, negsuc, nat_abs, IfOk, Ok, Err, Result, sym, refl, ap, ◌∙◌, append_assoc, add-zero, arith, length-append}
use Rattle.std.specs.Fmt.{signed_decimal}
use Rattle.std.proofs.lemmas.Bool.{and_parts, and_from, cond-true, cond_both}
use Rattle.std.proofs.lemmas.Bool.Decides.{nat_tests}
use Rattle.std.specs.List.{list_all}
use Rattle.aspif.specs.Texts.{spaced}
use Rattle.aspif.specs.declared.error.TextError.{TextError}
use Rattle.aspif.specs.declared.error.TextError.TheVariants.{UnknownAtom}
use Rattle.reader.specs.Fields.{and_then, follows, field_at, Field}
use Rattle.reader.specs.Rows.{allowed, after_item, item_at, Row, before, row_at}
use Rattle.reader.specs.declared.pieces.Items.{Items}
use Rattle.reader.specs.declared.pieces.Items.TheVariants as items
use Rattle.reader.proofs.Forward.{then_made}
use Rattle.reader.proofs.Written.{drop_past, field_read, Says, field_says}

-- the byte before so many numbers of a row; before none it is the one that ends the row
abbrev pub lead : Items → ℕ → ℕ
lead items.Heads n = 32
lead items.Literals zero = 10
lead items.Literals (suc n) = 32

lead_follows : (i : Items) (n : ℕ) (z : ℤ) → follows (after_item i n) z (lead i n) ≡ true
lead_follows items.Heads zero z = refl
lead_follows items.Heads (suc n) z = refl
lead_follows items.Literals zero z = refl
lead_follows items.Literals (suc n) z = refl

follows_lead : (i : Items) (n : ℕ) (z : ℤ) (b : ℕ) → follows (after_item i n) z b ≡ true → b ≡ lead i n
follows_lead items.Heads zero z b h = grind (arith, nat_tests)
follows_lead items.Heads (suc n) z b h = grind (arith, nat_tests)
follows_lead items.Literals zero z b h = grind (arith, nat_tests)
follows_lead items.Literals (suc n) z b h = grind (arith, nat_tests)

lead_some : (i : Items) (n : ℕ) → lead i (suc n) ≡ 32
lead_some items.Heads n = refl
lead_some items.Literals n = refl

allowed_small : (i : Items) (z : ℤ) → allowed i z ≡ true → nat_abs z < 10 ^ 9
allowed_small items.Heads (pos n) h = grind (arith, nat_tests)
allowed_small items.Heads (negsuc n) h = absurd (grind (arith, nat_tests))
allowed_small items.Literals z h = grind (arith, nat_tests)

pub spaced_more : (z : ℤ) (zs : List ℤ) (ys : List ℕ) → spaced (z ∷ zs) ++ ys ≡ 32 ∷ (signed_decimal z ++ (spaced zs ++ ys))
unfolding spaced
spaced_more z zs ys = ap (32 ∷◌) (append_assoc (signed_decimal z) (spaced zs) ys)

pub spaced_size : (z : ℤ) (zs : List ℤ) → length (spaced (z ∷ zs)) ≡ suc (length (signed_decimal z) + length (spaced zs))
unfolding spaced
spaced_size z zs = ap suc (length-append (signed_decimal z) (spaced zs))

-- From the written row to what is read.

pub record Taken (i : Items) (zs : List ℤ) (text : List ℕ) (at : ℕ) (rest : List ℕ) : Type 0 where
  pub row : row_at i (length zs) text at ≡ Ok (record { values = zs; next = at + length (spaced zs) })
  pub left : drop (at + length (spaced zs)) text ≡ rest

pub opens : (i : Items) (zs : List ℤ) (rest : List ℕ) → spaced zs ++ (lead i 0 ∷ rest) ≡ lead i (length zs) ∷ drop 1 (spaced zs ++ (lead i 0 ∷ rest))
unfolding spaced
opens i [] rest = refl
opens i (z ∷ zs) rest = ap (◌∷ ((signed_decimal z ++ spaced zs) ++ (lead i 0 ∷ rest))) (sym (lead_some i (length zs)))

item_read : (i : Items) (more : ℕ) (text : List ℕ) (at : ℕ) (f : Field) → field_at (after_item i more) text at ≡ Ok f → allowed i f.value ≡ true → item_at i more text at ≡ Ok f
unfolding item_at
item_read i more text at f e a = ap (λ r. and_then r (λ g. cond (allowed i g.value) (Ok g) (Err (UnknownAtom at)))) e ∙ cond-true (allowed i f.value) (Ok f) _ a

pub row_read : (i : Items) (zs : List ℤ) (text : List ℕ) (at : ℕ) (rest : List ℕ) → lead i (length zs) ∷ drop at text ≡ spaced zs ++ (lead i 0 ∷ rest) → list_all (allowed i) zs ≡ true → Taken i zs text at rest
unfolding row_at spaced
row_read i [] text at rest e a = record { row = ap (λ n. Ok (record { values = []; next = n })) (sym (add-zero at)); left = ap (λ n. drop n text) (add-zero at) ∙ ap (drop 1) e }
row_read i (z ∷ zs) text at rest e a =
    let n = length zs in
    let p = and_parts (allowed i z) (list_all (allowed i) zs) a in
    let tail = drop 1 (spaced zs ++ (lead i 0 ∷ rest)) in
    let here : drop at text ≡ signed_decimal z ++ (lead i n ∷ tail) = ap (drop 1) (e ∙ spaced_more z zs (lead i 0 ∷ rest)) ∙ ap (signed_decimal z ++◌) (opens i zs rest) in
    let next = at + length (signed_decimal z) + 1 in
    let f = field_read (after_item i n) text at z (lead i n) tail here (allowed_small i z p.0) (lead_follows i n z) in
    let t = row_read i zs text next rest (ap (lead i n ∷◌) (drop_past text at (signed_decimal z) (lead i n) tail here) ∙ sym (opens i zs rest)) p.1 in
    let end : next + length (spaced zs) ≡ at + length (spaced (z ∷ zs)) = omega (arith, spaced_size z zs) in
    record {
      row = ap (λ r. and_then r (λ g. before g.value (row_at i n text g.next))) (item_read i n text at _ f p.0) ∙ ap (before z) t.row ∙ ap (λ k. Ok (record { values = z ∷ zs; next = k })) end;
      left = ap (λ k. drop k text) (sym end) ∙ t.left;
    }

-- From what is read to the written row.

pub record RowSays (i : Items) (n : ℕ) (text : List ℕ) (at : ℕ) (r : Row) : Type 0 where
  pub bytes : lead i n ∷ drop at text ≡ spaced r.values ++ (lead i 0 ∷ drop r.next text)
  pub next : r.next ≡ at + length (spaced r.values)
  pub count : length r.values ≡ n
  pub fits : list_all (allowed i) r.values ≡ true

record ItemSays (i : Items) (more : ℕ) (text : List ℕ) (at : ℕ) (f : Field) : Type 0 where
  says : Says (after_item i more) text at f
  fits : allowed i f.value ≡ true

item_says : (i : Items) (more : ℕ) (text : List ℕ) (at : ℕ) → IfOk (item_at i more text at) (ItemSays i more text at)
unfolding item_at
item_says i more text at =
    then_made (Says (after_item i more) text at) (ItemSays i more text at) (field_at (after_item i more) text at) _ (field_says (after_item i more) text at)
    (λ f s. cond_both (allowed i f.value) (Ok f) (Err (UnknownAtom at)) (λ r. IfOk r (ItemSays i more text at)) (λ a. record { says = s; fits = a }) (λ _. tt))

before_says : (i : Items) (n : ℕ) (text : List ℕ) (at : ℕ) (f : Field) (r : Result Row TextError) → ItemSays i n text at f → IfOk r (RowSays i n text f.next) → IfOk (before f.value r) (RowSays i (suc n) text at)
before_says i n text at f (Ok r) s h =
    let z = f.value in
    let zs = r.values in
    let ending : f.ending ≡ lead i n = follows_lead i n z f.ending s.says.fits in
    record {
      bytes = ap (λ b. b ∷ drop at text) (lead_some i n) ∙ ap (32 ∷◌) (s.says.bytes ∙ ap (λ b. signed_decimal z ++ (b ∷ drop f.next text)) ending ∙ ap (signed_decimal z ++◌) h.bytes) ∙ sym (spaced_more z zs (lead i 0 ∷ drop r.next text));
      next = omega (arith, h.next, s.says.next, spaced_size z zs);
      count = ap suc h.count;
      fits = and_from (allowed i z) (list_all (allowed i) zs) s.fits h.fits;
    }
before_says i n text at f (Err e) s h = tt

pub row_says : (i : Items) (n : ℕ) (text : List ℕ) (at : ℕ) → IfOk (row_at i n text at) (RowSays i n text at)
unfolding row_at spaced
row_says i zero text at = record { bytes = refl; next = sym (add-zero at); count = refl; fits = refl }
row_says i (suc n) text at = then_made (ItemSays i n text at) (RowSays i (suc n) text at) (item_at i n text at) _ (item_says i n text at) (λ f s. before_says i n text at f (row_at i n text f.next) s (row_says i n text f.next))
