-- The encoding of rules that keep the limits is accepted, and spells out those rules.
use Rattle.std.proofs.Common.{◌≡◌, ℕ, zero, suc, ◌+◌, ◌-◌, ◌<◌, ◌≤◌, true, false, not, ltb, leb, List, [], ◌∷◌, ◌++◌, map, length, get_or, take, drop, ℤ, pos, nat_abs, is_some, is_ok, None, Ok, sym, refl, ap, ◌∙◌, subst, inl, inr, append_assoc, add-zero, zero-add, arith, length-append, length-drop, get_or-drop, drop-drop, take_at, drop_at}
use lib.ListN.{length-map}
use Rattle.std.specs.List.{AllByRecursion as Each, list_all}
use Rattle.std.proofs.ByRecursion.{All-get_or}
use Rattle.std.proofs.lemmas.Bool.{and_from, and_left, and_right, cases_lt, cond-true, cond-false, le-leb, eq-eqb, le-ltb, lt-ltb}
use Rattle.base.proofs.Search.{all_every, none_found}
use Rattle.book.specs.Rules.{Rule, Rules, Atom, Literal, LawfulRule, Lawful, head_limit}
use Rattle.book.specs.Encoding.{head_type, encode_rule, encode, starts_from}
use Rattle.numbers.specs.Numbers.{integer_at, count, kind_from, head_count, head_part, body_start, body_count, body_part, rule_end, rule_from, within, is_literal, sound_counts, sound_rule, sound_at, due_start, outside, names_fit, rest_fits, after_rules, first_faulty, numbers_verdict, numbers_book}
use Rattle.numbers.specs.NumbersLaw.{NamesInside, Encodes, Faithful}
use Rattle.numbers.proofs.Spelled.{accepted_encodes}
use Rattle.numbers.specs.declared.lists.Names.{Names}
use Rattle.numbers.specs.declared.lists.RuleLists.{RuleLists}
use Rattle.book.specs.declared.kind.Kind.{Kind}
use Rattle.book.specs.declared.kind.Kind.TheVariants.{Plain, Choice}

abbrev book_of : ℕ → List Rule → Rules
book_of n ρs = record { atoms = n; rules = ρs }

kind_back : (k : Kind) → kind_from (head_type k) ≡ k
kind_back Plain = refl
kind_back Choice = refl

type_within : (k : Kind) → within 0 1 (head_type k) ≡ true
type_within Plain = refl
type_within Choice = refl

abbrev made : Kind → List ℕ → List ℤ → Rule
made k h b = record { kind = k; head = h; body = b }

count_within : (high k : ℕ) → k ≤ high → within 0 high (pos k) ≡ true
count_within high k h = and_from (leb 0 k) (leb k high) (le-leb 0 k (omega arith)) (le-leb k high h)

pub literal_passes : (n : ℕ) (z : ℤ) → Literal n z → is_literal n z ≡ true
literal_passes n z h = and_from (leb 1 (nat_abs z)) (leb (nat_abs z) n) (le-leb 1 (nat_abs z) h.0) (le-leb (nat_abs z) n h.1)

pub atoms_back : (hs : List ℕ) → map nat_abs (map pos hs) ≡ hs
atoms_back [] = refl
atoms_back (a ∷ hs) = ap (λ t. a ∷ t) (atoms_back hs)

pub atoms_within : (n : ℕ) (hs : List ℕ) → Each (Atom n) hs → list_all (within 1 n) (map pos hs) ≡ true
atoms_within n [] h = refl
atoms_within n (a ∷ hs) h = and_from _ _ (and_from _ _ (le-leb 1 a h.0.0) (le-leb a n h.0.1)) (atoms_within n hs h.1)

-- what stands from a place on: two integers, and the rest
module _ (xs : List ℤ) (s : ℕ) (y z : ℤ) (t : List ℤ) (here : drop s xs ≡ y ∷ z ∷ t) where
  first_is : integer_at xs s ≡ y
  first_is = ap (integer_at xs) (sym (add-zero s)) ∙ sym (get_or-drop s xs 0 (pos 0)) ∙ ap (λ l. get_or l 0 (pos 0)) here

  second_is : integer_at xs (s + 1) ≡ z
  second_is = sym (get_or-drop s xs 1 (pos 0)) ∙ ap (λ l. get_or l 1 (pos 0)) here

  rest_is : drop (s + 2) xs ≡ t
  rest_is = sym (drop-drop 2 s xs) ∙ ap (drop 2) here

-- one rule, where the integers from s on are its own and then others
module _ (n : ℕ) (xs : List ℤ) (s : ℕ) (ρ : Rule) (post : List ℤ) (here : drop s xs ≡ encode_rule ρ ++ post) where
  abbrev heads : List ℤ
  heads = map pos ρ.head

  abbrev tail : List ℤ
  tail = pos 0 ∷ pos (length ρ.body) ∷ (ρ.body ++ post)

  abbrev begins : drop s xs ≡ head_type ρ.kind ∷ pos (length ρ.head) ∷ (heads ++ tail)
  begins = here ∙ ap (λ t. head_type ρ.kind ∷ pos (length ρ.head) ∷ t) (append_assoc heads (pos 0 ∷ pos (length ρ.body) ∷ ρ.body) post)

  type_is : integer_at xs s ≡ head_type ρ.kind
  type_is = first_is xs s _ _ _ begins

  heads_is : head_count xs s ≡ length ρ.head
  heads_is = ap count (second_is xs s _ _ _ begins)

  head_is : head_part xs s ≡ heads
  head_is = ap (λ k. take k (drop (s + 2) xs)) heads_is ∙ ap (take (length ρ.head)) (rest_is xs s _ _ _ begins) ∙ take_at heads tail (length ρ.head) (length-map ρ.head pos)

  body_start_lem : drop (body_start xs s) xs ≡ tail
  body_start_lem =
      ap (λ k. drop (s + 2 + k) xs) heads_is ∙ sym (drop-drop (length ρ.head) (s + 2) xs)
      ∙ ap (drop (length ρ.head)) (rest_is xs s _ _ _ begins) ∙ drop_at heads tail (length ρ.head) (length-map ρ.head pos)

  literals_is : body_count xs s ≡ length ρ.body
  literals_is = ap count (second_is xs (body_start xs s) _ _ _ body_start_lem)

  body_is : body_part xs s ≡ ρ.body
  body_is =
      ap (λ k. take k (drop (body_start xs s + 2) xs)) literals_is ∙ ap (take (length ρ.body)) (rest_is xs (body_start xs s) _ _ _ body_start_lem)
      ∙ take_at ρ.body post (length ρ.body) refl

  pub rule_is : rule_from xs s ≡ ρ
  rule_is =
      ap (λ k. made k (map nat_abs (head_part xs s)) (body_part xs s)) (ap kind_from type_is ∙ kind_back ρ.kind)
      ∙ ap (λ h. made ρ.kind h (body_part xs s)) (ap (map nat_abs) head_is ∙ atoms_back ρ.head)
      ∙ ap (made ρ.kind ρ.head) body_is

  pub end_is : rule_end xs s ≡ s + length (encode_rule ρ)
  end_is = simp (length-append, length-map) (omega (arith, heads_is, literals_is))

  inside : rule_end xs s ≤ length xs
  inside =
      let long : length xs - s ≡ length (encode_rule ρ) + length post = sym (length-drop s xs) ∙ ap length here ∙ length-append (encode_rule ρ) post in
      omega (arith, end_is)

  counts_sound : LawfulRule n ρ → sound_counts xs s ≡ true
  counts_sound l =
      and_from _ _
      (and_from _ _
      (ap (within 0 1) type_is ∙ type_within ρ.kind)
      (ap (λ z. within 0 (head_limit (kind_from z)) (integer_at xs (s + 1))) type_is
      ∙ ap (λ k. within 0 (head_limit k) (integer_at xs (s + 1))) (kind_back ρ.kind)
      ∙ ap (within 0 (head_limit ρ.kind)) (second_is xs s _ _ _ begins)
      ∙ count_within _ _ l.short_head))
      (and_from _ _
      (ap (within 0 0) (first_is xs (body_start xs s) _ _ _ body_start_lem))
      (ap (within 0 255) (second_is xs (body_start xs s) _ _ _ body_start_lem) ∙ count_within _ _ l.short_body))

  pub rule_sound : LawfulRule n ρ → sound_rule n xs s ≡ true
  rule_sound l =
      and_from _ _
      (and_from _ _ (counts_sound l) (le-leb _ _ inside))
      (and_from _ _
      (ap (list_all (within 1 n)) head_is ∙ atoms_within n ρ.head l.heads)
      (ap (list_all (is_literal n)) body_is ∙ all_every (is_literal n) (Literal n) (literal_passes n) ρ.body l.literals))

-- where a list of rules starts at a place, and the integers from there on are its encoding
module _ (n : ℕ) (xs : List ℤ) where
  -- as due_start, with another place for the first rule
  abbrev due_from : ℕ → List ℕ → ℕ → ℕ
  due_from at ss zero = at
  due_from at ss (suc i) = rule_end xs (get_or ss i 0)

  due_next : (at : ℕ) (ss : List ℕ) (i : ℕ) → due_from at (at ∷ ss) (suc i) ≡ due_from (rule_end xs at) ss i
  due_next at ss zero = refl
  due_next at ss (suc i) = refl

  module _ (at : ℕ) (ρ : Rule) (ρs : List Rule) (here : drop at xs ≡ encode_rule ρ ++ encode ρs) where
    next_here : drop (at + length (encode_rule ρ)) xs ≡ encode ρs
    next_here = sym (drop-drop (length (encode_rule ρ)) at xs) ∙ ap (drop (length (encode_rule ρ))) here ∙ drop_at (encode_rule ρ) (encode ρs) _ refl

  pub rules_back : (at : ℕ) (ρs : List Rule) → drop at xs ≡ encode ρs → map (rule_from xs) (starts_from at ρs) ≡ ρs
  rules_back at [] here = refl
  rules_back at (ρ ∷ ρs) here =
      ap (λ t. rule_from xs at ∷ t) (rules_back (at + length (encode_rule ρ)) ρs (next_here at ρ ρs here)) ∙ ap (λ t. t ∷ ρs) (rule_is n xs at ρ (encode ρs) here)

  pub starts_sound : (at : ℕ) (ρs : List Rule) → drop at xs ≡ encode ρs → Each (LawfulRule n) ρs → Each (λ s. sound_rule n xs s ≡ true) (starts_from at ρs)
  starts_sound at [] here l = tt
  starts_sound at (ρ ∷ ρs) here l = (rule_sound n xs at ρ (encode ρs) here l.0, starts_sound (at + length (encode_rule ρ)) ρs (next_here at ρ ρs here) l.1)

  pub starts_due : (at : ℕ) (ρs : List Rule) → drop at xs ≡ encode ρs → (i : ℕ) → i < length (starts_from at ρs) → get_or (starts_from at ρs) i 0 ≡ due_from at (starts_from at ρs) i
  starts_due at [] here i l = absurd (omega arith)
  starts_due at (ρ ∷ ρs) here zero l = refl
  starts_due at (ρ ∷ ρs) here (suc i) l =
      starts_due (at + length (encode_rule ρ)) ρs (next_here at ρ ρs here) i (omega arith)
      ∙ ap (λ a. due_from a (starts_from (at + length (encode_rule ρ)) ρs) i) (sym (end_is n xs at ρ (encode ρs) here))
      ∙ sym (due_next at (starts_from (at + length (encode_rule ρ)) ρs) i)

  pub end_due : (at : ℕ) (ρs : List Rule) → drop at xs ≡ encode ρs → due_from at (starts_from at ρs) (length (starts_from at ρs)) ≡ at + length (encode ρs)
  end_due at [] here = sym (add-zero at)
  end_due at (ρ ∷ ρs) here =
      let next = starts_from (at + length (encode_rule ρ)) ρs in
      due_next at next (length next)
      ∙ ap (λ a. due_from a next (length next)) (end_is n xs at ρ (encode ρs) here)
      ∙ end_due (at + length (encode_rule ρ)) ρs (next_here at ρ ρs here)
      ∙ simp length-append (omega arith)

  length_starts : (at : ℕ) (ρs : List Rule) → length (starts_from at ρs) ≡ length ρs
  length_starts at [] = refl
  length_starts at (ρ ∷ ρs) = ap suc (length_starts (at + length (encode_rule ρ)) ρs)

due_is : (n : ℕ) (xs : List ℤ) (ss : List ℕ) (i : ℕ) → due_from n xs 0 ss i ≡ due_start xs ss i
due_is n xs ss zero = refl
due_is n xs ss (suc i) = refl

module _ (n : ℕ) (N : Names) (h : NamesInside n N) where
  name_inside : (i : ℕ) → i < n → outside N i ≡ false
  name_inside i l = elim (cases_lt 0 (get_or N.lengths.now i 0)) [
    | inl some ↦ and_right _ _ (le-ltb _ _ (h.inside i l some))
    | inr none ↦ and_left _ _ (le-ltb 0 (get_or N.lengths.now i 0) none)
  ]

  names_pass : names_fit n N ≡ true
  names_pass =
      and_from _ _
      (and_from _ _ (eq-eqb (length N.starts.now) n h.starts) (eq-eqb (length N.lengths.now) n h.lengths))
      (ap (λ o. not (is_some o)) (none_found (outside N) n name_inside))

-- all that was found of the starts of encoded rules
record Chained (n : ℕ) (xs : List ℤ) (ρs : List Rule) (ss : List ℕ) : Type 0 where
  spells : map (rule_from xs) ss ≡ ρs
  size : length ss ≡ length ρs
  sound : Each (λ s. sound_rule n xs s ≡ true) ss
  due : (i : ℕ) → i < length ss → get_or ss i 0 ≡ due_start xs ss i
  end : due_start xs ss (length ss) ≡ length xs

chained : (n : ℕ) (xs : List ℤ) (ρs : List Rule) → xs ≡ encode ρs → Each (LawfulRule n) ρs → Chained n xs ρs (starts_from 0 ρs)
chained n xs ρs e l =
    let ss = starts_from 0 ρs in
    record {
      spells = rules_back n xs 0 ρs e;
      size = length_starts n xs 0 ρs;
      sound = starts_sound n xs 0 ρs e l;
      due = λ i h. starts_due n xs 0 ρs e i h ∙ due_is n xs ss i;
      end = sym (due_is n xs ss (length ss)) ∙ end_due n xs 0 ρs e ∙ zero-add (length (encode ρs)) ∙ ap length (sym e);
    }

module _ (L : RuleLists) (R : Rules) (l : Lawful R) (e : Encodes R L) where
  abbrev xs : List ℤ
  xs = L.integers.now

  abbrev ss : List ℕ
  ss = L.starts.now

  found : Chained L.atoms xs R.rules ss
  found =
      subst (Chained L.atoms xs R.rules) (sym e.starts)
      (chained L.atoms xs R.rules e.integers (subst (λ n. Each (LawfulRule n) R.rules) (sym e.atoms) l.each))

  sound_here : (i : ℕ) → i < length ss → sound_at L i ≡ true
  sound_here i h =
      and_from _ _
      (and_from _ _ (lt-ltb i 2048 (omega (arith, found.size, l.few_rules))) (eq-eqb _ _ (found.due i h)))
      (All-get_or (λ s. sound_rule L.atoms xs s ≡ true) ss i 0 h found.sound)

  none_faulty : first_faulty L ≡ None
  none_faulty = none_found (λ i. not (sound_at L i)) (length ss) (λ i h. ap not (sound_here i h))

  rest_passes : rest_fits L ≡ true
  rest_passes = and_from _ _ (eq-eqb _ _ found.end) (names_pass L.atoms L.names e.names)

  accepted : numbers_verdict L ≡ Ok tt
  accepted =
      cond-false (ltb 1024 L.atoms) _ _ (le-ltb 1024 L.atoms (omega (arith, e.atoms, l.few_atoms)))
      ∙ ap (λ o. after_rules o L) none_faulty ∙ cond-true (rest_fits L) _ _ rest_passes

  pub encoded_accepted : (numbers_verdict L ≡ Ok tt) × (numbers_book L ≡ R)
  encoded_accepted =
      (accepted, cond-true (is_ok (numbers_verdict L)) _ _ (ap is_ok accepted) ∙ ap (λ n. book_of n (map (rule_from xs) ss)) e.atoms ∙ ap (book_of R.atoms) found.spells)

pub faithful : (L : RuleLists) → Faithful L
faithful L = record { decoded = accepted_encodes L; encoded = encoded_accepted L }
