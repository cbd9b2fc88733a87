-- Accepted lists are the encoding of the rules that they spell out; and names looked at one by one.
use Rattle.std.proofs.Common.{◌≡◌, ℕ, zero, suc, ◌+◌, ◌≤◌, true, false, not, ◌&&◌, eqb, leb, List, [], ◌∷◌, ◌++◌, map, length, get_or, slice_index, take, drop, ℤ, pos, negsuc, nat_abs, is_some, is_ok, Some, None, Ok, Option, sym, refl, ap, ◌∙◌, subst, append_assoc, arith, length-append, length-drop, drop-cons, drop-drop}
use lib.ListN.{length-map}
use Rattle.std.proofs.lemmas.List.{drop_all, drop_more, append-nil, take-append-drop, length-take-le}
use Rattle.std.proofs.lemmas.Bool.{and_parts, cond-true, leb-true, eqb-true, not-true}
use Rattle.std.proofs.lemmas.Slice.Zip.{length-zip}
use Rattle.std.proofs.lemmas.Bool.Decides.{nat_tests}
use Rattle.std.specs.List.{slice_get, list_all, list_any, zip}
use Rattle.base.specs.Search.{least}
use Rattle.base.proofs.Search.{none_passes, some_place}
use Rattle.book.specs.Rules.{no_rules}
use Rattle.book.specs.Encoding.{head_type, encode_rule, encode, starts_from}
use Rattle.numbers.specs.Numbers.{integer_at, count, kind_from, head_count, head_part, body_start, body_count, body_part, rule_end, rule_from, within, due_start, reaches_past, outside, names_fit, first_faulty, numbers_verdict, spelled, numbers_book}
use Rattle.numbers.specs.NumbersLawful.{SoundRule, each_placed, accepted_parts}
use Rattle.numbers.specs.NumbersLaw.{NamesInside, Encodes}
use Rattle.numbers.specs.declared.lists.Names.{Names}
use Rattle.numbers.specs.declared.lists.RuleLists.{RuleLists}

-- the integer that a count or a type was read from
type_back : (z : ℤ) → within 0 1 z ≡ true → head_type (kind_from z) ≡ z
type_back (pos zero) h = refl
type_back (pos (suc zero)) h = refl
type_back (pos (suc (suc n))) h = let l = leb-true (suc (suc n)) 1 (and_parts (leb 0 (suc (suc n))) (leb (suc (suc n)) 1) h).1 in absurd (omega arith)
type_back (negsuc n) h = absurd cc

count_back : (high : ℕ) (z : ℤ) → within 0 high z ≡ true → pos (count z) ≡ z
count_back high (pos n) h = refl
count_back high (negsuc n) h = absurd cc

zero_back : (z : ℤ) → within 0 0 z ≡ true → pos 0 ≡ z
zero_back (pos n) h = let l = leb-true n 0 (and_parts (leb 0 n) (leb n 0) h).1 in let e : 0 ≡ n = omega arith in ap pos e
zero_back (negsuc n) h = absurd cc

-- integers that are atoms, as atoms and back
pub heads_back : (n : ℕ) (zs : List ℤ) → list_all (within 1 n) zs ≡ true → map pos (map nat_abs zs) ≡ zs
heads_back n [] h = refl
heads_back n (pos k ∷ zs) h = ap (λ t. pos k ∷ t) (heads_back n zs (and_parts (within 1 n (pos k)) (list_all (within 1 n) zs) h).1)
heads_back n (negsuc k ∷ zs) h = absurd cc

-- two integers, a part of as many as the second counts, and the rest
cut : (xs : List ℤ) (s n : ℕ) → s + 2 + n ≤ length xs → drop s xs ≡ integer_at xs s ∷ integer_at xs (s + 1) ∷ (take n (drop (s + 2) xs) ++ drop (s + 2 + n) xs)
cut xs s n h =
    let two : s + 1 + 1 ≡ s + 2 = omega arith in
    drop_more xs s (pos 0) (omega arith)
    ∙ ap (λ t. integer_at xs s ∷ t) (drop_more xs (s + 1) (pos 0) (omega arith))
    ∙ ap (λ k. integer_at xs s ∷ integer_at xs (s + 1) ∷ drop k xs) two
    ∙ ap (λ t. integer_at xs s ∷ integer_at xs (s + 1) ∷ t) (sym (take-append-drop n (drop (s + 2) xs)) ∙ ap (λ t. take n (drop (s + 2) xs) ++ t) (drop-drop n (s + 2) xs))

module _ (n : ℕ) (xs : List ℤ) (s : ℕ) (h : SoundRule n xs s) where
  heads : length (head_part xs s) ≡ head_count xs s
  heads = length-take-le _ _ (simp length-drop (omega (arith, h.inside)))

  literals : length (body_part xs s) ≡ body_count xs s
  literals = length-take-le _ _ (simp length-drop (omega (arith, h.inside)))

  pub rule_length : s + length (encode_rule (rule_from xs s)) ≡ rule_end xs s
  rule_length = simp (length-append, length-map) (omega (arith, heads, literals))

  pub rule_split : encode_rule (rule_from xs s) ++ drop (rule_end xs s) xs ≡ drop s xs
  rule_split =
      let H = head_part xs s in
      let B = body_part xs s in
      let D = drop (rule_end xs s) xs in
      let type : head_type (kind_from (integer_at xs s)) ≡ integer_at xs s = type_back _ h.type in
      let size : pos (length (map nat_abs H)) ≡ integer_at xs (s + 1) = ap pos (length-map H nat_abs ∙ heads) ∙ count_back _ _ h.heads in
      let body : integer_at xs (body_start xs s) ≡ pos 0 = sym (zero_back _ h.body_type) in
      let body_size : pos (length B) ≡ integer_at xs (body_start xs s + 1) = ap pos literals ∙ count_back _ _ h.literals in
      let signs : map pos (map nat_abs H) ≡ H = heads_back n H h.each_head in
      let front = cut xs s (head_count xs s) (omega (arith, h.inside)) in
      let back = cut xs (body_start xs s) (body_count xs s) h.inside in
      let join = append_assoc (map pos (map nat_abs H)) (pos 0 ∷ pos (length B) ∷ B) D in
      cc

-- the rules from a place on, and where they start
module _ (L : RuleLists) (none : first_faulty L ≡ None) where
  abbrev xs : List ℤ
  xs = L.integers.now

  abbrev ss : List ℕ
  ss = L.starts.now

  abbrev end : ℕ
  end = due_start xs ss (length ss)

  rules_split : (k i : ℕ) → k + i ≡ length ss → encode (map (rule_from xs) (drop i ss)) ++ drop end xs ≡ drop (due_start xs ss i) xs
  rules_split zero i e =
      let same : length ss ≡ i = omega arith in
      ap (λ t. encode (map (rule_from xs) t) ++ drop end xs) (drop_all i ss (omega arith)) ∙ ap (λ j. drop (due_start xs ss j) xs) same
  rules_split (suc k) i e =
      let s = get_or ss i 0 in
      let p = each_placed L none i (omega arith) in
      ap (λ t. encode (map (rule_from xs) t) ++ drop end xs) (drop-cons ss i 0 (omega arith))
      ∙ append_assoc (encode_rule (rule_from xs s)) (encode (map (rule_from xs) (drop (suc i) ss))) (drop end xs)
      ∙ ap (λ t. encode_rule (rule_from xs s) ++ t) (rules_split k (suc i) (omega arith))
      ∙ rule_split L.atoms xs s p.sound
      ∙ ap (λ a. drop a xs) p.due

  starts_back : (k i : ℕ) → k + i ≡ length ss → starts_from (due_start xs ss i) (map (rule_from xs) (drop i ss)) ≡ drop i ss
  starts_back zero i e =
      let none_left = drop_all i ss (omega arith) in
      ap (λ t. starts_from (due_start xs ss i) (map (rule_from xs) t)) none_left ∙ sym none_left
  starts_back (suc k) i e =
      let s = get_or ss i 0 in
      let rest = drop (suc i) ss in
      let first = drop-cons ss i 0 (omega arith) in
      let p = each_placed L none i (omega arith) in
      ap (λ t. starts_from (due_start xs ss i) (map (rule_from xs) t)) first
      ∙ ap (λ a. a ∷ starts_from (a + length (encode_rule (rule_from xs s))) (map (rule_from xs) rest)) (sym p.due)
      ∙ ap (λ a. s ∷ starts_from a (map (rule_from xs) rest)) (rule_length L.atoms xs s p.sound)
      ∙ ap (λ t. s ∷ t) (starts_back k (suc i) (omega arith))
      ∙ sym first

none_there : {X : Type 0} (o : Option X) → is_some o ≡ false → o ≡ None
none_there None h = refl
none_there (Some x) h = absurd cc

names_inside : (n : ℕ) (N : Names) → names_fit n N ≡ true → NamesInside n N
names_inside n N h =
    let a = and_parts (eqb (length N.starts.now) n && eqb (length N.lengths.now) n) (not (is_some (least (outside N) n))) h in
    let b = and_parts (eqb (length N.starts.now) n) (eqb (length N.lengths.now) n) a.0 in
    let none = none_there (least (outside N) n) (not-true (is_some (least (outside N) n)) a.1) in
    record {
      starts = eqb-true _ n b.0;
      lengths = eqb-true _ n b.1;
      inside = λ i l some. let in_text : outside N i ≡ false = none_passes (outside N) n i l none in grind (arith, nat_tests);
    }

pub accepted_encodes : (L : RuleLists) → numbers_verdict L ≡ Ok tt → Encodes (numbers_book L) L
accepted_encodes L ok =
    let yes : is_ok (numbers_verdict L) ≡ true = ap is_ok ok in
    let a = accepted_parts L yes in
    let xs = L.integers.now in
    let ss = L.starts.now in
    let end = due_start xs ss (length ss) in
    let r = and_parts (eqb end (length xs)) (names_fit L.atoms L.names) a.rest in
    let full : length xs ≤ end = omega (arith, eqb-true end (length xs) r.0) in
    subst (λ R. Encodes R L) (sym (cond-true (is_ok (numbers_verdict L)) (spelled L) no_rules yes)) (record {
      atoms = refl;
      integers = sym (sym (append-nil _) ∙ ap (λ t. encode (map (rule_from xs) ss) ++ t) (sym (drop_all end xs full)) ∙ rules_split L a.none (length ss) 0 (omega arith));
      starts = sym (starts_back L a.none (length ss) 0 (omega arith));
      names = names_inside L.atoms L.names r.1;
    })

-- two lists side by side, at a place
zip_there : (xs ys : List ℕ) (i : ℕ) (p : ℕ × ℕ) → Some p ≡ slice_get (zip xs ys) i → (slice_index xs i ≡ p.0) × (slice_index ys i ≡ p.1)
zip_there [] ys i p e = absurd cc
zip_there (x ∷ xs) [] i p e = absurd cc
zip_there (x ∷ xs) (y ∷ ys) zero p e = let same : (x, y) ≡ p = cc in (ap (λ q. q.0) same, ap (λ q. q.1) same)
zip_there (x ∷ xs) (y ∷ ys) (suc i) p e = zip_there xs ys i p e

-- looking at the names one by one, as at two lists side by side
pub any_name : (N : Names) → length N.starts.now ≡ length N.lengths.now → list_any (λ p. reaches_past (length N.text.now) p.0 p.1) (zip N.starts.now N.lengths.now) ≡ is_some (least (outside N) (length N.starts.now))
any_name N same =
    let pairs = zip N.starts.now N.lengths.now in
    let as_many : length pairs ≡ length N.starts.now = omega (arith, length-zip N.starts.now N.lengths.now, same) in
    let there = λ (i : ℕ) (p : ℕ × ℕ) (e : Some p ≡ slice_get pairs i). let t = zip_there N.starts.now N.lengths.now i p e in ap (λ s. reaches_past (length N.text.now) s (slice_index N.lengths.now i)) t.0 ∙ ap (reaches_past (length N.text.now) p.0) t.1 in
    sym (some_place (λ p. reaches_past (length N.text.now) p.0 p.1) (outside N) pairs there) ∙ ap (λ n. is_some (least (outside N) n)) as_many
