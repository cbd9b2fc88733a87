-- A line that is read somewhere in a text is written there.
use Rattle.std.proofs.Common.{◌≡◌, ℕ, zero, suc, ◌+◌, ◌-◌, ◌<◌, Bool, true, false, not, eqb, ltb, ◌≢◌, List, [], ◌∷◌, ◌++◌, map, length, get_or, take, drop, ℤ, pos, negsuc, nat_abs, IfOk, Ok, Err, decimal, sym, refl, ap, ◌∙◌, subst, one-add, arith, length-drop}
use lib.ListN.{length-map}
use Rattle.std.specs.Fmt.{signed_decimal}
use Rattle.std.specs.List.{prefix_len, AllByRecursion as Each, list_all}
use Rattle.std.proofs.lemmas.Fmt.{decimal_digit}
use Rattle.std.proofs.ByRecursion.{All-map}
use Rattle.std.proofs.lemmas.List.{drop-drop, drop_more, take-append-drop, length-take-le}
use Rattle.std.proofs.lemmas.List.Sums.{prefix_len-le-length}
use Rattle.std.proofs.lemmas.Bool.{cond-true, cond-false, cond_both, ltb-true, eqb-true, eqb-false}
use Rattle.std.proofs.lemmas.Bool.Decides.{nat_tests}
use Rattle.base.proofs.Search.{every_all}
use Rattle.book.specs.Rules.{Rule, Atom, Literal}
use Rattle.book.specs.Encoding.{head_type}
use Rattle.numbers.specs.Numbers.{within, is_literal}
use Rattle.numbers.specs.NumbersLawful.{within_atom, is_literal_lem}
use Rattle.numbers.proofs.Spelled.{heads_back}
use Rattle.aspif.specs.Texts.{closing, spaced}
use Rattle.aspif.specs.declared.error.TextError.TheVariants.{Malformed, Unsupported, UnexpectedEnd}
use Rattle.reader.specs.Fields.{field_at}
use Rattle.reader.specs.Rows.{Row, count_at, Counted}
use Rattle.reader.specs.Statements.{Stmt, output, skipped}
use Rattle.reader.specs.Lines.{counted_at, head_type_at, body_type_at, Line, ended, said, rule_of, rule_at, name_end_at, output_at, assumption_at, in_line, rest_of, skipped_at, passed_over, by_kind, line_at, Headed}
use Rattle.reader.specs.Program.{line_of, Passable, Fits, Placed}
use Rattle.reader.specs.declared.pieces.After.TheVariants.{ByKind}
use Rattle.reader.specs.declared.pieces.Count.TheVariants as count
use Rattle.reader.specs.declared.pieces.Items.TheVariants as items
use Rattle.reader.proofs.Forward.{then_made}
use Rattle.reader.proofs.LineBytes.{counted_bytes, rule_bytes_lem, output_bytes_lem, assumption_bytes, skipped_bytes, rule_size, output_size, before_name_size, assumption_size, skipped_size}
use Rattle.reader.proofs.LinesRead.{drop_after}
use Rattle.reader.proofs.Written.{Says, field_says}
use Rattle.reader.proofs.WrittenCounts.{CountSays, count_says, CountedSays, counted_says, HeadTypeSays, head_type_says, BodyTypeSays, body_type_says}

-- the statement stands at a place of the text, up to another
pub record Stands (text : List ℕ) (at : ℕ) (s : Stmt) (end : ℕ) : Type 0 where
  pub bytes : drop at text ≡ line_of s ++ drop end text
  pub next : end ≡ at + length (line_of s)
  pub fits : Fits s
  pub placed : Placed at s

abbrev pub LineSays : List ℕ → ℕ → Line → Type 0
LineSays text at (ended end) = (drop at text ≡ closing ++ drop end text) × (end ≡ at + 2)
LineSays text at (said s end) = Stands text at s end

literals_fit : (zs : List ℤ) → list_all (is_literal 1024) zs ≡ true → Each (Literal 1024) zs
literals_fit zs h = every_all (is_literal 1024) (Literal 1024) (is_literal_lem 1024) zs h

module _ (text : List ℕ) (from at : ℕ) (two : at ≡ from + 2) where
  assumption_says : drop from text ≡ 54 ∷ (32 ∷ drop at text) → IfOk (assumption_at text at) (LineSays text from)
  unfolding assumption_at
  assumption_says e = then_made (CountedSays count.Assumed text at) (LineSays text from) (counted_at count.Assumed items.Literals text at) _ (counted_says count.Assumed text at)
      (λ r c. record {
        bytes = e ∙ ap (λ t. 54 ∷ (32 ∷ t)) c.bytes ∙ sym (assumption_bytes r.values (drop r.next text));
        next = omega (arith, c.next, assumption_size r.values);
        fits = literals_fit r.values c.fits;
        placed = tt;
      })

  rule_stands : drop from text ≡ 49 ∷ (32 ∷ drop at text) → (h : Headed) → HeadTypeSays text at h → (hs : Row) → CountedSays (count.Heads h.kind) text h.next hs → (n : ℕ) → BodyTypeSays text hs.next n → (bs : Row) → CountedSays count.Literals text n bs → IfOk (rule_of h.kind hs bs) (LineSays text from)
  rule_stands e h type hs heads n zero_type bs body =
      let ρ : Rule = record { kind = h.kind; head = map nat_abs hs.values; body = bs.values } in
      let same : hs.values ≡ map pos (map nat_abs hs.values) = sym (heads_back 1024 hs.values heads.fits) in
      let size : length (map nat_abs hs.values) ≡ length hs.values = length-map hs.values nat_abs in
      let after = drop bs.next text in
      let tail = 32 ∷ (decimal 0 ++ (32 ∷ counted_bytes bs.values after)) in
      record {
        bytes = e ∙ ap (λ t. 49 ∷ (32 ∷ t))
            (type.bytes
            ∙ ap (λ t. signed_decimal (head_type h.kind) ++ (32 ∷ t))
            (heads.bytes
            ∙ ap (λ t. decimal (length hs.values) ++ (spaced hs.values ++ (32 ∷ t))) (zero_type.bytes ∙ ap (λ t. decimal 0 ++ (32 ∷ t)) body.bytes)
            ∙ ap (λ zs. decimal (length zs) ++ (spaced zs ++ tail)) same))
            ∙ sym (rule_bytes_lem ρ after);
        next = omega (arith, type.next, heads.next, zero_type.next_is, body.next, rule_size ρ, ap (λ zs. length (decimal (length zs))) same, ap (λ zs. length (spaced zs)) same);
        fits = record {
          heads = All-map (Atom 1024) nat_abs hs.values (every_all (within 1 1024) (λ z. Atom 1024 (nat_abs z)) (within_atom 1024) hs.values heads.fits);
          literals = literals_fit bs.values body.fits;
          short_head = omega (arith, heads.few);
          short_body = body.few;
        };
        placed = tt;
      }

  rule_says : drop from text ≡ 49 ∷ (32 ∷ drop at text) → IfOk (rule_at text at) (LineSays text from)
  unfolding rule_at
  rule_says e =
      then_made (HeadTypeSays text at) (LineSays text from) (head_type_at text at) _ (head_type_says text at) (λ h type.
      then_made (CountedSays (count.Heads h.kind) text h.next) (LineSays text from) (counted_at (count.Heads h.kind) items.Heads text h.next) _ (counted_says (count.Heads h.kind) text h.next) (λ hs heads.
      then_made (BodyTypeSays text hs.next) (LineSays text from) (body_type_at text hs.next) _ (body_type_says text hs.next) (λ n zero_type.
      then_made (CountedSays count.Literals text n) (LineSays text from) (counted_at count.Literals items.Literals text n) _ (counted_says count.Literals text n) (λ bs body.
      rule_stands e h type hs heads n zero_type bs body))))

  -- the byte after a name
  record NameEnd (end next : ℕ) : Type 0 where
    inside : end < length text
    bytes : drop end text ≡ 32 ∷ drop (end + 1) text
    after : next ≡ end + 1

  name_end_says : (end : ℕ) → IfOk (name_end_at text end) (NameEnd end)
  name_end_says end =
      cond_both (ltb end (length text)) _ (Err (UnexpectedEnd (length text))) (λ r. IfOk r (NameEnd end))
      (λ t. let l = ltb-true end (length text) t in
      cond_both (eqb (get_or text end 0) 32) (Ok (end + 1)) (Err (Malformed end)) (λ r. IfOk r (NameEnd end))
      (λ s. record { inside = l; bytes = drop_more text end 0 l ∙ ap (λ b. b ∷ drop (end + 1) text) (eqb-true (get_or text end 0) 32 s); after = refl })
      (λ _. tt))
      (λ _. tt)

  output_stands : drop from text ≡ 52 ∷ (32 ∷ drop at text) → (m : Counted) → CountSays count.Name text at m → (n : ℕ) → NameEnd (m.next + m.count) n → (r : Row) → CountedSays count.Literals text n r → Stands text from (output m.next (take m.count (drop m.next text)) r.values) r.next
  output_stands e m counts n name_end r c =
      let name = take m.count (drop m.next text) in
      let after = drop r.next text in
      let size : length name ≡ m.count = length-take-le m.count (drop m.next text) (omega (arith, name_end.inside, length-drop m.next text)) in
      let end = m.next + m.count in
      let past : drop end text ≡ 32 ∷ counted_bytes r.values after = name_end.bytes ∙ ap (λ k. 32 ∷ drop k text) (sym name_end.after) ∙ ap (32 ∷◌) c.bytes in
      let split : drop m.next text ≡ name ++ (32 ∷ counted_bytes r.values after) = sym (take-append-drop m.count (drop m.next text)) ∙ ap (name ++◌) (drop-drop m.count m.next text ∙ past) in
      let width = ap (λ k. length (decimal k)) size in
      record {
        bytes = e ∙ ap (λ t. 52 ∷ (32 ∷ t)) (counts.bytes ∙ ap (λ t. decimal m.count ++ (32 ∷ t)) split ∙ ap (λ k. decimal k ++ (32 ∷ (name ++ (32 ∷ counted_bytes r.values after)))) (sym size)) ∙ sym (output_bytes_lem m.next name r.values after);
        next = omega (arith, counts.next, c.next, name_end.after, output_size m.next name r.values, width, size);
        fits = (omega (arith, size, counts.few), c.few, literals_fit r.values c.fits);
        placed = omega (arith, counts.next, before_name_size name, width);
      }

  output_says : drop from text ≡ 52 ∷ (32 ∷ drop at text) → IfOk (output_at text at) (LineSays text from)
  unfolding output_at
  output_says e =
      then_made (CountSays count.Name text at) (LineSays text from) (count_at count.Name text at) _ (count_says count.Name text at) (λ m counts.
      then_made (NameEnd (m.next + m.count)) (LineSays text from) (name_end_at text (m.next + m.count)) _ (name_end_says (m.next + m.count)) (λ n name_end.
      then_made (CountedSays count.Literals text n) (LineSays text from) (counted_at count.Literals items.Literals text n) _ (counted_says count.Literals text n) (λ r c.
      output_stands e m counts n name_end r c)))

-- a line that is passed over

front_in_line_by : (x : ℕ) (xs : List ℕ) (b : Bool) → eqb x 10 ≡ b → Each (λ c. c ≢ 10) (take (prefix_len in_line xs) xs) → Each (λ c. c ≢ 10) (take (prefix_len in_line (x ∷ xs)) (x ∷ xs))
front_in_line_by x xs true y ih = subst (λ n. Each (λ c. c ≢ 10) (take n (x ∷ xs))) (sym (cond-false (in_line x) (1 + prefix_len in_line xs) 0 (ap not y))) tt
front_in_line_by x xs false y ih = subst (λ n. Each (λ c. c ≢ 10) (take n (x ∷ xs))) (sym (cond-true (in_line x) (1 + prefix_len in_line xs) 0 (ap not y) ∙ one-add (prefix_len in_line xs))) (eqb-false x 10 y, ih)

front_in_line : (xs : List ℕ) → Each (λ c. c ≢ 10) (take (prefix_len in_line xs) xs)
front_in_line [] = tt
front_in_line (x ∷ xs) = front_in_line_by x xs (eqb x 10) refl (front_in_line xs)

-- what stops the front of a line is a newline
front_stops_by : (x : ℕ) (xs : List ℕ) (b : Bool) → eqb x 10 ≡ b → (prefix_len in_line xs < length xs → drop (prefix_len in_line xs) xs ≡ 10 ∷ drop (prefix_len in_line xs + 1) xs) → prefix_len in_line (x ∷ xs) < length (x ∷ xs) → drop (prefix_len in_line (x ∷ xs)) (x ∷ xs) ≡ 10 ∷ drop (prefix_len in_line (x ∷ xs) + 1) (x ∷ xs)
front_stops_by x xs true y ih h =
    let none : prefix_len in_line (x ∷ xs) ≡ 0 = cond-false (in_line x) (1 + prefix_len in_line xs) 0 (ap not y) in
    ap (λ n. drop n (x ∷ xs)) none ∙ ap (◌∷ xs) (eqb-true x 10 y) ∙ ap (λ n. 10 ∷ drop (n + 1) (x ∷ xs)) (sym none)
front_stops_by x xs false y ih h =
    let n = prefix_len in_line xs in
    let more : prefix_len in_line (x ∷ xs) ≡ suc n = cond-true (in_line x) (1 + n) 0 (ap not y) ∙ one-add n in
    let shift : suc n + 1 ≡ suc (n + 1) = omega arith in
    ap (λ k. drop k (x ∷ xs)) more ∙ ih (omega arith) ∙ ap (λ k. 10 ∷ drop k (x ∷ xs)) (sym (ap (◌+ 1) more ∙ shift))

front_stops : (xs : List ℕ) → prefix_len in_line xs < length xs → drop (prefix_len in_line xs) xs ≡ 10 ∷ drop (prefix_len in_line xs + 1) xs
front_stops [] h = absurd (omega arith)
front_stops (x ∷ xs) h = front_stops_by x xs (eqb x 10) refl (front_stops xs) h

nil_is_not : (b : ℕ) (bs : List ℕ) → [] ≡ b ∷ bs → ⊥
nil_is_not b bs e = omega (arith, ap length e)

-- a byte at the front of a part is the byte at the front of all
first_of_take : (n b : ℕ) (xs bs : List ℕ) → take n xs ≡ b ∷ bs → get_or xs 0 0 ≡ b
first_of_take zero b xs bs e = absurd (nil_is_not b bs e)
first_of_take (suc n) b [] bs e = absurd (nil_is_not b bs e)
first_of_take (suc n) b (x ∷ xs) bs e = ap (λ l. get_or l 0 0) e

module _ (text : List ℕ) (from kind b next : ℕ) (s : Says ByKind text from (record { value = pos kind; ending = b; next = next })) (over : passed_over kind ≡ true) where
  abbrev at : ℕ
  at = next - 1

  at_is : at ≡ from + length (decimal kind)
  at_is = omega (arith, s.next)

  here : drop at text ≡ b ∷ drop next text
  here = ap (λ n. drop n text) at_is ∙ drop_after text from (decimal kind) (b ∷ drop next text) s.bytes

  apart : (c : ℕ) (bs : List ℕ) → c ≢ 10 → take (rest_of text at) (drop at text) ≡ c ∷ bs → c ≡ 32
  apart c bs other e =
      let first : b ≡ c = sym (ap (λ l. get_or l 0 0) here) ∙ first_of_take (rest_of text at) c (drop at text) bs e in
      grind (arith, nat_tests, s.fits, over)

  passable : Passable (take (rest_of text at) (drop at text))
  passable =
      let in_line_lem = front_in_line (drop at text) in
      record { apart = λ c bs e. apart c bs (subst (Each (λ x. x ≢ 10)) e in_line_lem).0 e; in_line = in_line_lem }

  skipped_says : IfOk (skipped_at kind text at) (LineSays text from)
  unfolding skipped_at
  skipped_says =
      let k = rest_of text at in
      let bytes = take k (drop at text) in
      cond_both (ltb (at + k) (length text)) (Ok (said (skipped kind bytes) (at + k + 1))) (Err (UnexpectedEnd (length text))) (λ r. IfOk r (LineSays text from))
      (λ t. let l = ltb-true (at + k) (length text) t in
      let size : length bytes ≡ k = length-take-le k (drop at text) (prefix_len-le-length in_line (drop at text)) in
      let rest : drop k (drop at text) ≡ 10 ∷ drop (at + k + 1) text = front_stops (drop at text) (omega (arith, length-drop at text)) ∙ ap (10 ∷◌) (drop-drop (k + 1) at text ∙ ap (λ n. drop n text) (omega arith)) in
      record {
        bytes = s.bytes ∙ ap (decimal kind ++◌) (sym here ∙ sym (take-append-drop k (drop at text)) ∙ ap (bytes ++◌) rest) ∙ sym (skipped_bytes kind bytes (drop (at + k + 1) text));
        next = omega (arith, at_is, size, skipped_size kind bytes);
        fits = (over, passable);
        placed = tt;
      })
      (λ _. tt)

-- the kind of a line, and then the rest of it

module _ (text : List ℕ) (at : ℕ) where
  -- a kind of one digit
  record DigitSays (d b next : ℕ) : Type 0 where
    bytes : drop at text ≡ (48 + d) ∷ (b ∷ drop next text)
    after : next ≡ at + 2

  digit_says : (d n b next : ℕ) → d < 10 → n ≡ d → Says ByKind text at (record { value = pos n; ending = b; next = next }) → DigitSays d b next
  digit_says d n b next small e s =
      let one : decimal n ≡ (48 + d) ∷ [] = ap decimal e ∙ decimal_digit d small in
      record { bytes = s.bytes ∙ ap (◌++ (b ∷ drop next text)) one; after = omega (arith, s.next, ap length one) }

  -- with a space after it
  spaced_says : (d n b next : ℕ) → d < 10 → n ≡ d → b ≡ 32 → Says ByKind text at (record { value = pos n; ending = b; next = next }) → DigitSays d 32 next
  spaced_says d n b next small e space s = let h = digit_says d n b next small e s in record { bytes = h.bytes ∙ ap (λ x. (48 + d) ∷ (x ∷ drop next text)) space; after = h.after }

  by_value : (z : ℤ) (b next : ℕ) → Says ByKind text at (record { value = z; ending = b; next = next }) → IfOk (by_kind text at (record { value = z; ending = b; next = next })) (LineSays text at)
  unfolding closing
  by_value (negsuc n) b next s = tt
  by_value (pos n) b next s =
      cond_both (eqb n 0) (Ok (ended next)) _ (λ r. IfOk r (LineSays text at))
      (λ t. let zero_here = eqb-true n 0 t in let h = digit_says 0 n b next (omega arith) zero_here s in (h.bytes ∙ ap (λ x. 48 ∷ (x ∷ drop next text)) (grind (arith, nat_tests, s.fits, zero_here)), h.after))
      (λ _. cond_both (eqb n 1) (rule_at text next) _ (λ r. IfOk r (LineSays text at))
      (λ t. let one_here = eqb-true n 1 t in let h = spaced_says 1 n b next (omega arith) one_here (grind (arith, nat_tests, s.fits, one_here)) s in rule_says text at next h.after h.bytes)
      (λ _. cond_both (eqb n 4) (output_at text next) _ (λ r. IfOk r (LineSays text at))
      (λ t. let four_here = eqb-true n 4 t in let h = spaced_says 4 n b next (omega arith) four_here (grind (arith, nat_tests, s.fits, four_here)) s in output_says text at next h.after h.bytes)
      (λ _. cond_both (eqb n 6) (assumption_at text next) _ (λ r. IfOk r (LineSays text at))
      (λ t. let six_here = eqb-true n 6 t in let h = spaced_says 6 n b next (omega arith) six_here (grind (arith, nat_tests, s.fits, six_here)) s in assumption_says text at next h.after h.bytes)
      (λ _. cond_both (passed_over n) (skipped_at n text (next - 1)) (Err (Unsupported at)) (λ r. IfOk r (LineSays text at))
      (λ over. skipped_says text at n b next s over)
      (λ _. tt)))))

  pub line_says : IfOk (line_at text at) (LineSays text at)
  unfolding line_at
  line_says = then_made (Says ByKind text at) (LineSays text at) (field_at ByKind text at) (by_kind text at) (field_says ByKind text at) (λ f s. by_value f.value f.ending f.next s)
