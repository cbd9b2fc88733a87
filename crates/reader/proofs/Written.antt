-- A number is read at a place exactly where it is written there.
use Rattle.std.proofs.Common.{◌≡◌, ℕ, zero, suc, ◌+◌, ◌^◌, ◌<◌, ◌≤◌, Bool, true, false, cond, ◌&&◌, ltb, List, [], ◌∷◌, ◌++◌, length, get_or, take, drop, ℤ, pos, negsuc, nat_abs, IfOk, Ok, decimal, Result, sym, refl, ap, ◌∙◌, ⊎_elim, one-add, arith, length-append, length-drop, rules}
use Rattle.std.specs.Char.{is_ascii_digit}
use Rattle.std.specs.Fmt.{signed_decimal}
use Rattle.std.specs.Str.{all_ascii_digits}
use Rattle.std.specs.List.{prefix_len}
use Rattle.std.proofs.lemmas.List.{drop_at, take_at, take-append-drop, drop_more, length-take-le, get_or_append_left, get_or_at, get_or-drop, get_or_past, drop-drop}
use Rattle.std.proofs.lemmas.Bool.{and_parts, lt-ltb, ltb-true, ltb-false, cases_Bool, cond-true, cond_both, eq-eqb, eqb-true, ne_eqb}
use Rattle.std.proofs.lemmas.List.Sums.{prefix_len-le-length}
use Rattle.std.proofs.lemmas.Bool.Decides.{nat_tests}
use Rattle.std.proofs.lemmas.Str.Parse.{IsNumeralModel, numerals_by_fold, tells_all_ascii_digits, digits_value_short}
use Rattle.std.proofs.lemmas.Fmt.{digits_decimal, digits_value-decimal, length-decimal-le, decimal_nonempty, first_decimal, decimal_digit, decimal-digits_value}
use Rattle.aspif.specs.declared.error.TextError.{TextError}
use Rattle.reader.specs.Fields.{read_on, signed_by, formed, follows, minus_at, digits_from, digits_count, field_by, field_at, Field}
use Rattle.reader.specs.declared.pieces.After.{After}
use Rattle.reader.specs.declared.pieces.After.TheVariants.{Space, Newline, ByCount, ByKind}

own : IsNumeralModel (λ ds. all_ascii_digits ds ≡ true) (read_on 0)
own = numerals_by_fold _ tells_all_ascii_digits read_on (search rules)

-- what is left of a text after some bytes and one more
pub drop_past : (text : List ℕ) (at : ℕ) (xs : List ℕ) (b : ℕ) (rest : List ℕ) → drop at text ≡ xs ++ (b ∷ rest) → drop (at + length xs + 1) text ≡ rest
drop_past text at xs b rest e =
    let here = drop-drop (length xs) at text in
    sym (drop-drop 1 (at + length xs) text) ∙ ap (drop 1) (sym here ∙ ap (drop (length xs)) e ∙ drop_at xs (b ∷ rest) (length xs) refl)

pub inside : (text : List ℕ) (at : ℕ) (xs : List ℕ) (b : ℕ) (rest : List ℕ) → drop at text ≡ xs ++ (b ∷ rest) → at + length xs < length text
inside text at xs b rest e = omega (arith, length-drop at text, ap length e, length-append xs (b ∷ rest))

pub byte_past : (text : List ℕ) (at : ℕ) (xs : List ℕ) (b : ℕ) (rest : List ℕ) → drop at text ≡ xs ++ (b ∷ rest) → get_or text (at + length xs) 0 ≡ b
byte_past text at xs b rest e = sym (get_or-drop at text (length xs) 0) ∙ ap (λ l. get_or l (length xs) 0) e ∙ get_or_at xs b rest 0 (length xs) refl

first_here : (text : List ℕ) (at b : ℕ) (rest : List ℕ) → drop at text ≡ b ∷ rest → get_or text at 0 ≡ b
first_here text at b rest e = ap (λ n. get_or text n 0) (omega arith) ∙ byte_past text at [] b rest e

-- From the written number to the field.

-- digits end at a byte that is none
front : (ds : List ℕ) (c : ℕ) (rest : List ℕ) → all_ascii_digits ds ≡ true → is_ascii_digit c ≡ false → prefix_len is_ascii_digit (ds ++ (c ∷ rest)) ≡ length ds
front [] c rest a n = grind (arith, n)
front (d ∷ ds) c rest a n = let p = and_parts (is_ascii_digit d) (all_ascii_digits ds) a in let q = front ds c rest p.1 n in cond-true (is_ascii_digit d) _ _ p.0 ∙ (rw (one-add, q))

ends_number : (after : After) (z : ℤ) (b : ℕ) → follows after z b ≡ true → is_ascii_digit b ≡ false
ends_number Space z b h = grind (arith, nat_tests)
ends_number Newline z b h = grind (arith, nat_tests)
ends_number ByCount z b h = grind (arith, nat_tests)
ends_number ByKind z b h = grind (arith, nat_tests)

formed_decimal : (minus : Bool) (n : ℕ) → n < 10 ^ 9 → 0 < n → formed minus (decimal n) ≡ true
formed_decimal minus n h some =
    let a = first_decimal n some (omega arith) in
    let b = length-decimal-le 9 n (omega arith) h (omega arith) in
    let d = decimal_nonempty n (omega arith) in
    grind (arith, nat_tests)

formed_plain : (n : ℕ) → n < 10 ^ 9 → formed false (decimal n) ≡ true
formed_plain zero h = ap (formed false) (decimal_digit 0 (omega arith))
formed_plain (suc n) h = formed_decimal false (suc n) h (omega arith)

first_byte : (n : ℕ) → n < 10 ^ 9 → 48 ≤ get_or (decimal n) 0 0
first_byte zero h = omega (arith, ap (λ l. get_or l 0 0) (decimal_digit 0 (omega arith)))
first_byte (suc n) h = omega (arith, first_decimal (suc n) (omega arith) (omega arith))

module _ (after : After) (text : List ℕ) (at : ℕ) where
  by_minus : (m : Bool) → minus_at text at ≡ m → field_at after text at ≡ field_by after text at (cond m (at + 1) at) (digits_count text (cond m (at + 1) at))
  unfolding field_at
  by_minus m e = ap (λ u. field_by after text at (cond u (at + 1) at) (digits_count text (cond u (at + 1) at))) e

  digits_read : (minus : Bool) (from : ℕ) (ds : List ℕ) (b : ℕ) (rest : List ℕ) → minus_at text at ≡ minus → drop from text ≡ ds ++ (b ∷ rest) → all_ascii_digits ds ≡ true → formed minus ds ≡ true → follows after (signed_by minus (read_on 0 ds)) b ≡ true → field_by after text at from (digits_count text from) ≡ Ok (record { value = signed_by minus (read_on 0 ds); ending = b; next = from + length ds + 1 })
  digits_read minus from ds b rest m e a ok fol =
      rw (m, e, front ds b rest a (ends_number after _ b fol), take_at ds (b ∷ rest) (length ds) refl, lt-ltb (from + length ds) (length text) (inside text from ds b rest e), byte_past text from ds b rest e, ok, fol)

  pub field_read : (z : ℤ) (b : ℕ) (rest : List ℕ) → drop at text ≡ signed_decimal z ++ (b ∷ rest) → nat_abs z < 10 ^ 9 → follows after z b ≡ true → field_at after text at ≡ Ok (record { value = z; ending = b; next = at + length (signed_decimal z) + 1 })
  field_read (pos n) b rest e small fol =
      let ds = decimal n in
      let v = digits_value-decimal own n (omega arith) in
      let first : get_or text at 0 ≡ get_or ds 0 0 = ap (λ k. get_or text k 0) (omega arith) ∙ sym (get_or-drop at text 0 0) ∙ ap (λ l. get_or l 0 0) e ∙ get_or_append_left ds (b ∷ rest) 0 0 (decimal_nonempty n (omega arith)) in
      let m : minus_at text at ≡ false = ne_eqb _ 45 (λ q. omega (arith, first_byte n small)) in
      by_minus false m
      ∙ digits_read false at ds b rest m e (digits_decimal own n (omega arith)) (formed_plain n small) (ap (λ k. follows after (pos k) b) v ∙ fol)
      ∙ ap (λ k. Ok (record { value = pos k; ending = b; next = at + length ds + 1 })) v
  field_read (negsuc n) b rest e small fol =
      let ds = decimal (suc n) in
      let v = digits_value-decimal own (suc n) (omega arith) in
      let m : minus_at text at ≡ true = eq-eqb _ 45 (first_here text at 45 (ds ++ (b ∷ rest)) e) in
      let from : drop (at + 1) text ≡ ds ++ (b ∷ rest) = sym (drop-drop 1 at text) ∙ ap (drop 1) e in
      let next : at + 1 + length ds + 1 ≡ at + suc (length ds) + 1 = omega arith in
      by_minus true m
      ∙ digits_read true (at + 1) ds b rest m from (digits_decimal own (suc n) (omega arith)) (formed_decimal true (suc n) small (omega arith)) (rw v fol)
      ∙ rw (v, next)

-- From the field to the written number.

pub record Says (after : After) (text : List ℕ) (at : ℕ) (f : Field) : Type 0 where
  pub bytes : drop at text ≡ signed_decimal f.value ++ (f.ending ∷ drop f.next text)
  pub next : f.next ≡ at + length (signed_decimal f.value) + 1
  pub small : nat_abs f.value < 10 ^ 9
  pub fits : follows after f.value f.ending ≡ true

all_front_by : (x : ℕ) (xs : List ℕ) (b : Bool) → is_ascii_digit x ≡ b → all_ascii_digits (take (prefix_len is_ascii_digit xs) xs) ≡ true → all_ascii_digits (take (prefix_len is_ascii_digit (x ∷ xs)) (x ∷ xs)) ≡ true
all_front_by x xs true y ih = simp (y, one-add, ih)
all_front_by x xs false n ih = simp n

all_front : (xs : List ℕ) → all_ascii_digits (take (prefix_len is_ascii_digit xs) xs) ≡ true
all_front [] = refl
all_front (x ∷ xs) = all_front_by x xs (is_ascii_digit x) refl (all_front xs)

-- digits that are well formed are those of a number
record Digital (ds : List ℕ) : Type 0 where
  small : read_on 0 ds < 10 ^ 9
  same : decimal (read_on 0 ds) ≡ ds

digital : (minus : Bool) (ds : List ℕ) → all_ascii_digits ds ≡ true → formed minus ds ≡ true → Digital ds
digital minus ds a ok =
    let some : 0 < length ds = grind (arith, nat_tests) in
    let few : length ds ≤ 9 = grind (arith, nat_tests) in
    let small = digits_value_short own ds 9 a few in
    record { small = small; same = decimal-digits_value own ds a some (λ e. grind (arith, nat_tests)) (omega arith) }

-- after a minus it is not 0
below_zero : (v : ℕ) → formed true (decimal v) ≡ true → signed_decimal (signed_by true v) ≡ 45 ∷ decimal v
below_zero zero ok = let no : false ≡ true = ap (formed true) (sym (decimal_digit 0 (omega arith))) ∙ ok in absurd (grind (arith, nat_tests))
below_zero (suc n) ok = refl

size_signed : (minus : Bool) (v : ℕ) → nat_abs (signed_by minus v) ≡ v
size_signed true zero = refl
size_signed true (suc v) = refl
size_signed false v = refl

module _ (after : After) (text : List ℕ) (at : ℕ) where
  -- past the text there is no byte but 0
  in_text : (b : ℕ) → 0 < b → get_or text at 0 ≡ b → at < length text
  in_text b some e = ⊎_elim (ltb-true at (length text)) (λ h. absurd (omega (arith, get_or_past text at 0 (ltb-false at (length text) h)))) (cases_Bool (ltb at (length text)))

  -- the digits from a place on, and the byte that ends them
  record Split (from n : ℕ) : Type 0 where
    bytes : drop from text ≡ take n (drop from text) ++ (get_or text (from + n) 0 ∷ drop (from + n + 1) text)
    size : length (take n (drop from text)) ≡ n
    digits : all_ascii_digits (take n (drop from text)) ≡ true

  split : (from : ℕ) → from + digits_count text from < length text → Split from (digits_count text from)
  split from h =
      let n = digits_count text from in
      record {
        bytes = sym (take-append-drop n (drop from text)) ∙ ap (take n (drop from text) ++◌) (drop-drop n from text ∙ drop_more text (from + n) 0 h);
        size = length-take-le n (drop from text) (prefix_len-le-length is_ascii_digit (drop from text));
        digits = all_front (drop from text);
      }

  said_by_lem : (minus : Bool) (n : ℕ) (ds : List ℕ) (b : ℕ) → minus_at text at ≡ minus → drop (cond minus (at + 1) at) text ≡ ds ++ (b ∷ drop (cond minus (at + 1) at + n + 1) text) → length ds ≡ n → Digital ds → formed minus ds ≡ true → follows after (signed_by minus (read_on 0 ds)) b ≡ true → Says after text at (record { value = signed_by minus (read_on 0 ds); ending = b; next = cond minus (at + 1) at + n + 1 })
  said_by_lem false n ds b m e l d ok fol = record {
    bytes = e ∙ ap (◌++ (b ∷ drop (at + n + 1) text)) (sym d.same);
    next = omega (arith, ap length d.same);
    small = d.small;
    fits = fol;
  }
  said_by_lem true n ds b m e l d ok fol =
      let v = read_on 0 ds in
      let minus : get_or text at 0 ≡ 45 = eqb-true (get_or text at 0) 45 m in
      let here : at < length text = in_text 45 (omega arith) minus in
      let print : signed_decimal (signed_by true v) ≡ 45 ∷ ds = below_zero v (ap (formed true) d.same ∙ ok) ∙ ap (45 ∷◌) d.same in
      record {
        bytes = drop_more text at 0 here ∙ ap (λ x. x ∷ drop (at + 1) text) minus ∙ ap (45 ∷◌) e ∙ ap (◌++ (b ∷ drop (at + 1 + n + 1) text)) (sym print);
        next = omega (arith, ap length print);
        small = omega (arith, size_signed true v, d.small);
        fits = fol;
      }

  abbrev Told : Result Field TextError → Type 0
  Told r = IfOk r (Says after text at)

  pub field_says : IfOk (field_at after text at) (Says after text at)
  unfolding field_at
  field_says =
      let from = digits_from text at in
      let n = digits_count text from in
      let ds = take n (drop from text) in
      let b = get_or text (from + n) 0 in
      cond_both (ltb (from + n) (length text)) _ _ Told
      (λ t. let s = split from (ltb-true (from + n) (length text) t) in
      cond_both (formed (minus_at text at) ds && follows after (signed_by (minus_at text at) (read_on 0 ds)) b) _ _ Told
      (λ k. let p = and_parts (formed (minus_at text at) ds) _ k in said_by_lem (minus_at text at) n ds b refl s.bytes s.size (digital (minus_at text at) ds s.digits p.0) p.0 p.1)
      (λ _. tt))
      (λ _. tt)
