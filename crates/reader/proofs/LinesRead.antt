-- A line that is written somewhere in a text is read there.
use Rattle.std.proofs.Common.{◌≡◌, ℕ, ◌+◌, ◌-◌, ◌^◌, ◌<◌, ◌≤◌, true, not, eqb, ltb, ◌≢◌, ◌⊎◌, List, [], ◌∷◌, ◌++◌, map, length, get_or, take, drop, ℤ, pos, Ok, decimal, sym, refl, ap, ◌∙◌, inl, inr, one-add, arith}
use lib.ListN.{length-map}
use Rattle.std.specs.Fmt.{signed_decimal}
use Rattle.std.specs.List.{prefix_len, AllByRecursion as Each}
use Rattle.std.proofs.lemmas.Fmt.{decimal_digit}
use Rattle.std.proofs.lemmas.List.{drop-drop, drop_at, take_at}
use Rattle.std.proofs.lemmas.Bool.{cond-true, lt-ltb, eq-eqb, ne_eqb}
use Rattle.std.proofs.lemmas.Bool.Decides.{nat_tests}
use Rattle.base.proofs.Search.{all_every}
use Rattle.book.specs.Rules.{Rule, Literal, LawfulRule}
use Rattle.book.specs.Encoding.{head_type}
use Rattle.numbers.specs.Numbers.{is_literal}
use Rattle.numbers.proofs.Encoded.{literal_passes, atoms_back, atoms_within}
use Rattle.aspif.specs.Texts.{closing, spaced}
use Rattle.reader.specs.Fields.{and_then, follows}
use Rattle.reader.specs.Statements.{Stmt, rule, output, assumption, skipped, assumed_in}
use Rattle.reader.specs.Lines.{counted_at, body_type_at, ended, said, rule_of, rule_at, name_end_at, output_at, assumption_at, in_line, skipped_at, passed_over, by_kind, line_at}
use Rattle.reader.specs.Program.{line_of, Passable, Fits, Placed}
use Rattle.reader.specs.declared.pieces.After.TheVariants.{ByKind}
use Rattle.reader.specs.declared.pieces.Count.TheVariants as count
use Rattle.reader.specs.declared.pieces.Items.TheVariants as items
use Rattle.reader.proofs.LineBytes.{counted_bytes, rule_bytes, output_bytes, rule_bytes_lem, output_bytes_lem, assumption_bytes, skipped_bytes, rule_size, output_size, before_name_size, assumption_size, skipped_size}
use Rattle.reader.proofs.Written.{drop_past, inside, byte_past, field_read}
use Rattle.reader.proofs.WrittenCounts.{count_read, counted_read, head_type_read, body_type_read}

pub drop_after : (text : List ℕ) (at : ℕ) (xs rest : List ℕ) → drop at text ≡ xs ++ rest → drop (at + length xs) text ≡ rest
drop_after text at xs rest e = sym (drop-drop (length xs) at text) ∙ ap (drop (length xs)) e ∙ drop_at xs rest (length xs) refl

module _ (text : List ℕ) where
  -- the kind of a line
  kind_read : (at n b : ℕ) (rest : List ℕ) → drop at text ≡ decimal n ++ (b ∷ rest) → n < 10 ^ 9 → follows ByKind (pos n) b ≡ true → line_at text at ≡ by_kind text at (record { value = pos n; ending = b; next = at + length (decimal n) + 1 })
  unfolding line_at
  kind_read at n b rest e small fol = ap (λ r. and_then r (by_kind text at)) (field_read ByKind text at (pos n) b rest e small fol)

  -- one of one digit
  digit_read : (at d b : ℕ) (rest : List ℕ) → drop at text ≡ (48 + d) ∷ (b ∷ rest) → d < 10 → follows ByKind (pos d) b ≡ true → line_at text at ≡ by_kind text at (record { value = pos d; ending = b; next = at + 2 })
  digit_read at d b rest e small fol =
      let one = decimal_digit d small in
      let next : at + length (decimal d) + 1 ≡ at + 2 = omega (arith, ap length one) in
      kind_read at d b rest (e ∙ ap (◌++ (b ∷ rest)) (sym one)) (omega arith) fol ∙ ap (λ k. by_kind text at (record { value = pos d; ending = b; next = k })) next

  past_two : (at x y : ℕ) (rest : List ℕ) → drop at text ≡ x ∷ (y ∷ rest) → drop (at + 2) text ≡ rest
  past_two at x y rest e = drop_after text at (x ∷ y ∷ []) rest e

  pub closing_read : (at : ℕ) (rest : List ℕ) → drop at text ≡ closing ++ rest → line_at text at ≡ Ok (ended (at + 2))
  unfolding closing
  closing_read at rest e = digit_read at 0 10 rest e (omega arith) refl

  -- a rule, after its kind
  rule_at_lem : (at : ℕ) (ρ : Rule) (rest : List ℕ) → drop at text ≡ rule_bytes ρ rest → LawfulRule 1024 ρ → rule_at text at ≡ Ok (said (rule ρ) (at + (length (signed_decimal (head_type ρ.kind)) + 1 + (length (decimal (length (map pos ρ.head))) + 1 + length (spaced (map pos ρ.head))) + (length (decimal 0) + 1) + (length (decimal (length ρ.body)) + 1 + length (spaced ρ.body)))))
  unfolding rule_at
  rule_at_lem at ρ rest e l =
      let k = ρ.kind in
      let heads = map pos ρ.head in
      let body = ρ.body in
      let after_body = 32 ∷ counted_bytes body rest in
      let after_heads = decimal 0 ++ after_body in
      let after_type = decimal (length heads) ++ (spaced heads ++ (32 ∷ after_heads)) in
      let n1 = at + length (signed_decimal (head_type k)) + 1 in
      let n2 = n1 + length (decimal (length heads)) + 1 + length (spaced heads) in
      let n3 = n2 + length (decimal 0) + 1 in
      let type = head_type_read k text at after_type e in
      let hs = counted_read (count.Heads k) heads text n1 after_heads (drop_past text at (signed_decimal (head_type k)) 32 after_type e) (omega (arith, l.short_head, length-map ρ.head pos)) (atoms_within 1024 ρ.head l.heads) in
      let zero_type = body_type_read text n2 (counted_bytes body rest) hs.left in
      let bs = counted_read count.Literals body text n3 rest (drop_past text n2 (decimal 0) 32 (counted_bytes body rest) hs.left) l.short_body (all_every (is_literal 1024) (Literal 1024) (literal_passes 1024) body l.literals) in
      let end : n3 + length (decimal (length body)) + 1 + length (spaced body) ≡ at + (length (signed_decimal (head_type k)) + 1 + (length (decimal (length heads)) + 1 + length (spaced heads)) + (length (decimal 0) + 1) + (length (decimal (length body)) + 1 + length (spaced body))) = omega arith in
      ap (λ r. and_then r (λ h. and_then (counted_at (count.Heads h.kind) items.Heads text h.next) (λ q. and_then (body_type_at text q.next) (λ m. and_then (counted_at count.Literals items.Literals text m) (rule_of h.kind q))))) type
      ∙ ap (λ r. and_then r (λ q. and_then (body_type_at text q.next) (λ m. and_then (counted_at count.Literals items.Literals text m) (rule_of k q)))) hs.row
      ∙ ap (λ r. and_then r (λ m. and_then (counted_at count.Literals items.Literals text m) (rule_of k (record { values = heads; next = n2 })))) zero_type
      ∙ ap (λ r. and_then r (rule_of k (record { values = heads; next = n2 }))) bs.row
      ∙ ap (λ atoms. Ok (said (rule (record { kind = k; head = atoms; body = body })) (n3 + length (decimal (length body)) + 1 + length (spaced body)))) (atoms_back ρ.head)
      ∙ ap (λ n. Ok (said (rule ρ) n)) end

  rule_read : (at : ℕ) (ρ : Rule) (rest : List ℕ) → drop at text ≡ line_of (rule ρ) ++ rest → LawfulRule 1024 ρ → line_at text at ≡ Ok (said (rule ρ) (at + length (line_of (rule ρ))))
  rule_read at ρ rest e l =
      let here = e ∙ rule_bytes_lem ρ rest in
      digit_read at 1 32 (rule_bytes ρ rest) here (omega arith) refl
      ∙ rule_at_lem (at + 2) ρ rest (past_two at 49 32 (rule_bytes ρ rest) here) l
      ∙ ap (λ n. Ok (said (rule ρ) n)) (omega (arith, rule_size ρ))

  assumption_read : (at : ℕ) (zs : List ℤ) (rest : List ℕ) → drop at text ≡ line_of (assumption zs) ++ rest → Each (Literal 1024) zs → length zs ≤ 1024 → line_at text at ≡ Ok (said (assumption zs) (at + length (line_of (assumption zs))))
  unfolding assumption_at
  assumption_read at zs rest e l few =
      let here = e ∙ assumption_bytes zs rest in
      let t = counted_read count.Assumed zs text (at + 2) rest (past_two at 54 32 (counted_bytes zs rest) here) (omega arith) (all_every (is_literal 1024) (Literal 1024) (literal_passes 1024) zs l) in
      digit_read at 6 32 (counted_bytes zs rest) here (omega arith) refl
      ∙ ap (λ r. and_then r (λ q. Ok (said (assumption q.values) q.next))) t.row
      ∙ ap (λ n. Ok (said (assumption zs) n)) (omega (arith, assumption_size zs))

  -- an output, after its kind
  name_end_read : (end : ℕ) (rest : List ℕ) → drop end text ≡ 32 ∷ rest → name_end_at text end ≡ Ok (end + 1)
  name_end_read end rest e =
      let at_end : end + 0 ≡ end = omega arith in
      cond-true (ltb end (length text)) _ _ (lt-ltb end (length text) (omega (arith, inside text end [] 32 rest e)))
      ∙ cond-true (eqb (get_or text end 0) 32) _ _ (eq-eqb (get_or text end 0) 32 (ap (λ n. get_or text n 0) (sym at_end) ∙ byte_past text end [] 32 rest e))

  output_at_lem : (at : ℕ) (name : List ℕ) (zs : List ℤ) (rest : List ℕ) → drop at text ≡ output_bytes name zs rest → length name ≤ 255 → length zs ≤ 255 → Each (Literal 1024) zs → output_at text at ≡ Ok (said (output (at + length (decimal (length name)) + 1) name zs) (at + (length (decimal (length name)) + 1 + length name + 1 + (length (decimal (length zs)) + 1 + length (spaced zs)))))
  unfolding output_at
  output_at_lem at name zs rest e few short l =
      let n = length name in
      let after_name = 32 ∷ counted_bytes zs rest in
      let from = at + length (decimal n) + 1 in
      let here = drop_past text at (decimal n) 32 (name ++ after_name) e in
      let end = from + n in
      let past = drop_after text from name after_name here in
      let t = counted_read count.Literals zs text (end + 1) rest (drop_after text end (32 ∷ []) (counted_bytes zs rest) past) short (all_every (is_literal 1024) (Literal 1024) (literal_passes 1024) zs l) in
      let next : end + 1 + length (decimal (length zs)) + 1 + length (spaced zs) ≡ at + (length (decimal n) + 1 + n + 1 + (length (decimal (length zs)) + 1 + length (spaced zs))) = omega arith in
      ap (λ r. and_then r (λ m. and_then (name_end_at text (m.next + m.count)) (λ k. and_then (counted_at count.Literals items.Literals text k) (λ q. Ok (said (output m.next (take m.count (drop m.next text)) q.values) q.next))))) (count_read count.Name text at n (name ++ after_name) e few)
      ∙ ap (λ r. and_then r (λ k. and_then (counted_at count.Literals items.Literals text k) (λ q. Ok (said (output from (take n (drop from text)) q.values) q.next)))) (name_end_read end (counted_bytes zs rest) past)
      ∙ ap (λ r. and_then r (λ q. Ok (said (output from (take n (drop from text)) q.values) q.next))) t.row
      ∙ ap (λ bytes. Ok (said (output from (take n bytes) zs) (end + 1 + length (decimal (length zs)) + 1 + length (spaced zs)))) here
      ∙ ap (λ bytes. Ok (said (output from bytes zs) (end + 1 + length (decimal (length zs)) + 1 + length (spaced zs)))) (take_at name after_name n refl)
      ∙ ap (λ k. Ok (said (output from name zs) k)) next

  output_read : (at place : ℕ) (name : List ℕ) (zs : List ℤ) (rest : List ℕ) → drop at text ≡ line_of (output place name zs) ++ rest → Fits (output place name zs) → Placed at (output place name zs) → line_at text at ≡ Ok (said (output place name zs) (at + length (line_of (output place name zs))))
  output_read at place name zs rest e (few, short, l) placed =
      let here = e ∙ output_bytes_lem place name zs rest in
      let stands : at + 2 + length (decimal (length name)) + 1 ≡ place = omega (arith, before_name_size name, placed) in
      let end : at + 2 + (length (decimal (length name)) + 1 + length name + 1 + (length (decimal (length zs)) + 1 + length (spaced zs))) ≡ at + length (line_of (output place name zs)) = omega (arith, output_size place name zs) in
      digit_read at 4 32 (output_bytes name zs rest) here (omega arith) refl
      ∙ output_at_lem (at + 2) name zs rest (past_two at 52 32 (output_bytes name zs rest) here) few short l
      ∙ rw (stands, end)

  -- a line that is passed over

  line_front : (bytes rest : List ℕ) → Each (λ b. b ≢ 10) bytes → prefix_len in_line (bytes ++ (10 ∷ rest)) ≡ length bytes
  line_front [] rest l = refl
  line_front (b ∷ bytes) rest l = cond-true (in_line b) _ _ (ap not (ne_eqb b 10 l.0)) ∙ (rw (one-add, line_front bytes rest l.1))

  skipped_at_lem : (kind at : ℕ) (bytes rest : List ℕ) → drop at text ≡ bytes ++ (10 ∷ rest) → Each (λ b. b ≢ 10) bytes → skipped_at kind text at ≡ Ok (said (skipped kind bytes) (at + length bytes + 1))
  unfolding skipped_at
  skipped_at_lem kind at bytes rest e l =
      rw (e, line_front bytes rest l, lt-ltb (at + length bytes) (length text) (inside text at bytes 10 rest e), take_at bytes (10 ∷ rest) (length bytes) refl)

  passed_small : (kind : ℕ) → passed_over kind ≡ true → kind < 10 ^ 9
  passed_small kind h = grind (arith, nat_tests)

  passed_follows : (kind b : ℕ) → passed_over kind ≡ true → (b ≡ 32) ⊎ (b ≡ 10) → follows ByKind (pos kind) b ≡ true
  passed_follows kind b h (inl s) = grind (arith, nat_tests)
  passed_follows kind b h (inr n) = grind (arith, nat_tests)

  passed_kind : (at kind b next : ℕ) → passed_over kind ≡ true → by_kind text at (record { value = pos kind; ending = b; next = next }) ≡ skipped_at kind text (next - 1)
  passed_kind at kind b next h = grind (arith, nat_tests)

  -- the byte after the kind
  ends_kind : (bytes rest : List ℕ) → Passable bytes → (b : ℕ) × (more : List ℕ) × (bytes ++ (10 ∷ rest) ≡ b ∷ more) × ((b ≡ 32) ⊎ (b ≡ 10))
  ends_kind [] rest p = (10, rest, refl, inr refl)
  ends_kind (b ∷ bytes) rest p = (b, bytes ++ (10 ∷ rest), refl, inl (p.apart b bytes refl))

  skipped_read : (at kind : ℕ) (bytes rest : List ℕ) → drop at text ≡ line_of (skipped kind bytes) ++ rest → passed_over kind ≡ true → Passable bytes → line_at text at ≡ Ok (said (skipped kind bytes) (at + length (line_of (skipped kind bytes))))
  skipped_read at kind bytes rest e over p =
      let (b, more, same, either) = ends_kind bytes rest p in
      let here = e ∙ skipped_bytes kind bytes rest in
      let from = at + length (decimal kind) in
      let back : from + 1 - 1 ≡ from = omega arith in
      kind_read at kind b more (here ∙ ap (decimal kind ++◌) same) (passed_small kind over) (passed_follows kind b over either)
      ∙ passed_kind at kind b (from + 1) over
      ∙ ap (skipped_at kind text) back
      ∙ skipped_at_lem kind from bytes rest (drop_after text at (decimal kind) (bytes ++ (10 ∷ rest)) here) p.in_line
      ∙ ap (λ n. Ok (said (skipped kind bytes) n)) (omega (arith, skipped_size kind bytes))

  pub line_read : (at : ℕ) (s : Stmt) (rest : List ℕ) → drop at text ≡ line_of s ++ rest → Fits s → length (assumed_in s) ≤ 1024 → Placed at s → line_at text at ≡ Ok (said s (at + length (line_of s)))
  line_read at (rule ρ) rest e l few placed = rule_read at ρ rest e l
  line_read at (output place name zs) rest e l few placed = output_read at place name zs rest e l placed
  line_read at (assumption zs) rest e l few placed = assumption_read at zs rest e l few
  line_read at (skipped kind bytes) rest e l few placed = skipped_read at kind bytes rest e l.0 l.1
