-- Counts and types are read at a place exactly where they are written there.
use Rattle.std.proofs.Common.{◌≡◌, ℕ, zero, suc, ◌+◌, ◌^◌, ◌<◌, ◌≤◌, Bool, true, false, cond, eqb, ltb, List, ◌∷◌, ◌++◌, length, drop, ℤ, pos, negsuc, IfOk, Ok, Err, Result, decimal, sym, refl, ap, ◌∙◌, arith}
use Rattle.std.specs.Fmt.{signed_decimal}
use Rattle.std.proofs.lemmas.Bool.{cond-false, cond_both, le-ltb, ltb-false, eqb-true}
use Rattle.std.proofs.lemmas.Result.{IfOk-weaker}
use Rattle.std.proofs.lemmas.Bool.Decides.{nat_tests}
use Rattle.std.specs.List.{list_all}
use Rattle.book.specs.Encoding.{head_type, kind_told}
use Rattle.book.specs.declared.kind.NoSuchKind.{NoSuchKind}
use Rattle.book.specs.declared.kind.Kind.{Kind}
use Rattle.book.specs.declared.kind.Kind.TheVariants.{Plain, Choice}
use Rattle.aspif.specs.Texts.{spaced}
use Rattle.aspif.specs.declared.error.TextError.TheVariants.{Malformed, Unsupported}
use Rattle.reader.specs.Fields.{and_then, follows, field_at}
use Rattle.reader.specs.Rows.{after_count, count_limit, count_fault, count_judged, count_at, allowed, Row, row_at, Counted}
use Rattle.reader.specs.Lines.{counted_at, headed_by, head_judged, head_type_at, body_judged, body_type_at, Headed}
use Rattle.reader.specs.declared.pieces.After.TheVariants.{Space, ByCount}
use Rattle.reader.specs.declared.pieces.Count.{Count}
use Rattle.reader.specs.declared.pieces.Count.TheVariants as count
use Rattle.reader.specs.declared.pieces.Items.{Items}
use Rattle.reader.specs.declared.pieces.Items.TheVariants as items
use Rattle.reader.proofs.Forward.{then_made}
use Rattle.reader.proofs.Written.{drop_past, field_read, Says, field_says}
use Rattle.reader.proofs.WrittenRows.{lead, opens, row_read, RowSays, row_says}

-- what is counted; a name stands after a space like a head atom
abbrev pub items_of : Count → Items
items_of (count.Heads k) = items.Heads
items_of count.Name = items.Heads
items_of count.Literals = items.Literals
items_of count.Assumed = items.Literals

by_count : (n b : ℕ) → follows ByCount (pos n) b ≡ true → b ≡ lead items.Literals n
by_count zero b h = grind (arith, nat_tests)
by_count (suc n) b h = grind (arith, nat_tests)

follows_count : (c : Count) (n b : ℕ) → follows (after_count c) (pos n) b ≡ true → b ≡ lead (items_of c) n
follows_count (count.Heads k) n b h = grind (arith, nat_tests)
follows_count count.Name n b h = grind (arith, nat_tests)
follows_count count.Literals n b h = by_count n b h
follows_count count.Assumed n b h = by_count n b h

count_by : (n : ℕ) → follows ByCount (pos n) (lead items.Literals n) ≡ true
count_by zero = refl
count_by (suc n) = grind (arith, nat_tests)

count_follows : (c : Count) (n : ℕ) → follows (after_count c) (pos n) (lead (items_of c) n) ≡ true
count_follows (count.Heads k) n = refl
count_follows count.Name n = refl
count_follows count.Literals n = count_by n
count_follows count.Assumed n = count_by n

limit_small : (c : Count) → count_limit c < 10 ^ 9
limit_small (count.Heads Plain) = omega arith
limit_small (count.Heads Choice) = omega arith
limit_small count.Name = omega arith
limit_small count.Literals = omega arith
limit_small count.Assumed = omega arith

-- From what is written to what is read.

pub count_read : (c : Count) (text : List ℕ) (at n : ℕ) (rest : List ℕ) → drop at text ≡ decimal n ++ (lead (items_of c) n ∷ rest) → n ≤ count_limit c → count_at c text at ≡ Ok (record { count = n; next = at + length (decimal n) + 1 })
unfolding count_at
count_read c text at n rest e l =
    ap (λ r. and_then r (count_judged c at)) (field_read (after_count c) text at (pos n) (lead (items_of c) n) rest e (omega (arith, limit_small c)) (count_follows c n))
    ∙ cond-false (ltb (count_limit c) n) _ _ (le-ltb (count_limit c) n l)

pub record CountedTaken (c : Count) (zs : List ℤ) (text : List ℕ) (at : ℕ) (rest : List ℕ) : Type 0 where
  pub row : counted_at c (items_of c) text at ≡ Ok (record { values = zs; next = at + length (decimal (length zs)) + 1 + length (spaced zs) })
  pub left : drop (at + length (decimal (length zs)) + 1 + length (spaced zs)) text ≡ rest

pub counted_read : (c : Count) (zs : List ℤ) (text : List ℕ) (at : ℕ) (rest : List ℕ) → drop at text ≡ decimal (length zs) ++ (spaced zs ++ (lead (items_of c) 0 ∷ rest)) → length zs ≤ count_limit c → list_all (allowed (items_of c)) zs ≡ true → CountedTaken c zs text at rest
unfolding counted_at
counted_read c zs text at rest e l a =
    let i = items_of c in
    let n = length zs in
    let tail = drop 1 (spaced zs ++ (lead i 0 ∷ rest)) in
    let here : drop at text ≡ decimal n ++ (lead i n ∷ tail) = e ∙ ap (decimal n ++◌) (opens i zs rest) in
    let next = at + length (decimal n) + 1 in
    let t = row_read i zs text next rest (ap (lead i n ∷◌) (drop_past text at (decimal n) (lead i n) tail here) ∙ sym (opens i zs rest)) a in
    record {
      row = ap (λ r. and_then r (λ m. row_at i m.count text m.next)) (count_read c text at n tail here l) ∙ t.row;
      left = t.left;
    }

pub head_type_read : (k : Kind) (text : List ℕ) (at : ℕ) (rest : List ℕ) → drop at text ≡ signed_decimal (head_type k) ++ (32 ∷ rest) → head_type_at text at ≡ Ok (record { kind = k; next = at + length (signed_decimal (head_type k)) + 1 })
unfolding head_type_at
head_type_read Plain text at rest e = ap (λ r. and_then r (head_judged at)) (field_read Space text at (pos 0) 32 rest e (omega arith) refl)
head_type_read Choice text at rest e = ap (λ r. and_then r (head_judged at)) (field_read Space text at (pos 1) 32 rest e (omega arith) refl)

pub body_type_read : (text : List ℕ) (at : ℕ) (rest : List ℕ) → drop at text ≡ decimal 0 ++ (32 ∷ rest) → body_type_at text at ≡ Ok (at + length (decimal 0) + 1)
unfolding body_type_at
body_type_read text at rest e = ap (λ r. and_then r (body_judged at)) (field_read Space text at (pos 0) 32 rest e (omega arith) refl)

-- From what is read to what is written.

pub record CountSays (c : Count) (text : List ℕ) (at : ℕ) (m : Counted) : Type 0 where
  pub bytes : drop at text ≡ decimal m.count ++ (lead (items_of c) m.count ∷ drop m.next text)
  pub next : m.next ≡ at + length (decimal m.count) + 1
  pub few : m.count ≤ count_limit c

count_by_value : (c : Count) (text : List ℕ) (at : ℕ) (z : ℤ) (b next : ℕ) → Says (after_count c) text at (record { value = z; ending = b; next = next }) → IfOk (count_judged c at (record { value = z; ending = b; next = next })) (CountSays c text at)
count_by_value c text at (pos n) b next s =
    cond_both (ltb (count_limit c) n) (Err (count_fault c at)) (Ok (record { count = n; next = next })) (λ r. IfOk r (CountSays c text at)) (λ _. tt)
    (λ l. record {
      bytes = s.bytes ∙ ap (λ x. decimal n ++ (x ∷ drop next text)) (follows_count c n b s.fits);
      next = s.next;
      few = ltb-false (count_limit c) n l;
    })
count_by_value c text at (negsuc n) b next s = tt

pub count_says : (c : Count) (text : List ℕ) (at : ℕ) → IfOk (count_at c text at) (CountSays c text at)
unfolding count_at
count_says c text at = then_made (Says (after_count c) text at) (CountSays c text at) (field_at (after_count c) text at) (count_judged c at) (field_says (after_count c) text at) (λ f s. count_by_value c text at f.value f.ending f.next s)

pub record CountedSays (c : Count) (text : List ℕ) (at : ℕ) (r : Row) : Type 0 where
  pub bytes : drop at text ≡ decimal (length r.values) ++ (spaced r.values ++ (lead (items_of c) 0 ∷ drop r.next text))
  pub next : r.next ≡ at + length (decimal (length r.values)) + 1 + length (spaced r.values)
  pub few : length r.values ≤ count_limit c
  pub fits : list_all (allowed (items_of c)) r.values ≡ true

row_counted : (c : Count) (text : List ℕ) (at : ℕ) (m : Counted) → CountSays c text at m → (r : Row) → RowSays (items_of c) m.count text m.next r → CountedSays c text at r
row_counted c text at m s r h =
    let n : m.count ≡ length r.values = sym h.count in
    record {
      bytes = s.bytes ∙ ap (decimal m.count ++◌) h.bytes ∙ ap (λ k. decimal k ++ (spaced r.values ++ (lead (items_of c) 0 ∷ drop r.next text))) n;
      next = omega (arith, h.next, s.next, ap (λ k. length (decimal k)) n);
      few = omega (arith, s.few);
      fits = h.fits;
    }

pub counted_says : (c : Count) (text : List ℕ) (at : ℕ) → IfOk (counted_at c (items_of c) text at) (CountedSays c text at)
unfolding counted_at
counted_says c text at = then_made (CountSays c text at) (CountedSays c text at) (count_at c text at) _ (count_says c text at) (λ m s. IfOk-weaker (row_at (items_of c) m.count text m.next) (RowSays (items_of c) m.count text m.next) (CountedSays c text at) (row_counted c text at m s) (row_says (items_of c) m.count text m.next))

pub record HeadTypeSays (text : List ℕ) (at : ℕ) (h : Headed) : Type 0 where
  pub bytes : drop at text ≡ signed_decimal (head_type h.kind) ++ (32 ∷ drop h.next text)
  pub next : h.next ≡ at + length (signed_decimal (head_type h.kind)) + 1

-- a number that tells a kind is the kind's
kind_by : (n : ℕ) (k : Kind) (plain choice : Bool) → eqb n 0 ≡ plain → eqb n 1 ≡ choice → cond plain (Ok Plain) (cond {A = Result Kind NoSuchKind} choice (Ok Choice) (Err (record {}))) ≡ Ok k → pos n ≡ head_type k
kind_by n k true choice a b e = let same : Plain ≡ k = cc in ap pos (eqb-true n 0 a) ∙ ap head_type same
kind_by n k false true a b e = let same : Choice ≡ k = cc in ap pos (eqb-true n 1 b) ∙ ap head_type same
kind_by n k false false a b e = absurd cc

kind_is : (z : ℤ) (k : Kind) → kind_told z ≡ Ok k → z ≡ head_type k
kind_is (pos n) k e = kind_by n k (eqb n 0) (eqb n 1) refl refl e
kind_is (negsuc n) k e = absurd cc

head_type_told : (text : List ℕ) (at : ℕ) (z : ℤ) (b next : ℕ) → Says Space text at (record { value = z; ending = b; next = next }) → (r : Result Kind NoSuchKind) → kind_told z ≡ r → IfOk (headed_by at next r) (HeadTypeSays text at)
head_type_told text at z b next s (Ok k) e =
    let space : b ≡ 32 = eqb-true b 32 s.fits in
    let same = kind_is z k e in
    record {
      bytes = s.bytes ∙ ap (λ x. signed_decimal z ++ (x ∷ drop next text)) space ∙ ap (λ x. signed_decimal x ++ (32 ∷ drop next text)) same;
      next = s.next ∙ ap (λ x. at + length (signed_decimal x) + 1) same;
    }
head_type_told text at z b next s (Err x) e = tt

pub head_type_says : (text : List ℕ) (at : ℕ) → IfOk (head_type_at text at) (HeadTypeSays text at)
unfolding head_type_at
head_type_says text at = then_made (Says Space text at) (HeadTypeSays text at) (field_at Space text at) (head_judged at) (field_says Space text at) (λ f s. head_type_told text at f.value f.ending f.next s (kind_told f.value) refl)

pub record BodyTypeSays (text : List ℕ) (at next : ℕ) : Type 0 where
  pub bytes : drop at text ≡ decimal 0 ++ (32 ∷ drop next text)
  pub next_is : next ≡ at + length (decimal 0) + 1

body_type_by_value : (text : List ℕ) (at : ℕ) (z : ℤ) (b next : ℕ) → Says Space text at (record { value = z; ending = b; next = next }) → IfOk (body_judged at (record { value = z; ending = b; next = next })) (BodyTypeSays text at)
body_type_by_value text at (pos n) b next s =
    cond_both (eqb n 0) (Ok next) _ (λ r. IfOk r (BodyTypeSays text at))
    (λ t. let zero_here : n ≡ 0 = eqb-true n 0 t in record {
      bytes = s.bytes ∙ ap (λ x. decimal n ++ (x ∷ drop next text)) (eqb-true b 32 s.fits) ∙ ap (λ k. decimal k ++ (32 ∷ drop next text)) zero_here;
      next_is = s.next ∙ ap (λ k. at + length (decimal k) + 1) zero_here;
    })
    (λ _. cond_both (eqb n 1) (Err (Unsupported at)) (Err (Malformed at)) (λ r. IfOk r (BodyTypeSays text at)) (λ _. tt) (λ _. tt))
body_type_by_value text at (negsuc n) b next s = tt

pub body_type_says : (text : List ℕ) (at : ℕ) → IfOk (body_type_at text at) (BodyTypeSays text at)
unfolding body_type_at
body_type_says text at = then_made (Says Space text at) (BodyTypeSays text at) (field_at Space text at) (body_judged at) (field_says Space text at) (λ f s. body_type_by_value text at f.value f.ending f.next s)
