-- The names that the lists tell are those that the outputs give, the first one for each atom.
use Rattle.std.proofs.Common.{◌≡◌, ℕ, zero, suc, ◌+◌, ◌-◌, ◌<◌, ◌≤◌, Bool, true, false, cond, eqb, ltb, ◌≢◌, List, [], ◌∷◌, ◌++◌, map, length, get_or, take, drop, set, ℤ, pos, negsuc, nat_abs, Some, None, codes, Option, sym, refl, ap, ◌∙◌, subst, inl, inr, append_assoc, arith, length-append, length-drop}
use Rattle.std.specs.List.{AllByRecursion as Each}
use Rattle.std.proofs.lemmas.List.{length-set, get_or-set_same, get_or-set_other, take_at}
use Rattle.std.proofs.lemmas.Bool.{cases_Bool, cases_lt, cond-true, cond-false, cond_both, eqb-true, eqb-false, eq-eqb, ne_eqb, lt-ltb}
use Rattle.std.specs.Option.{option_or}
use Rattle.aspif.specs.Texts.{closing}
use Rattle.reader.specs.Statements.{Stmt, rule, output, assumption, skipped, greatest, greatest_in}
use Rattle.reader.specs.Program.{before_name, counted, line_of, lines_of, Placed, AllPlaced, atoms_of}
use Rattle.reader.specs.Fill.{sole_atom, atom_named, name_place, name_size, NameLists, named_by, with_name, with_names}
use Rattle.reader.specs.ReadLaw.{name_of, is_atom, first_name}
use Rattle.reader.proofs.LinesRead.{drop_after}

-- What a list of names tells of an atom, whose number is one more than its place.

abbrev pub shown : List ℕ → NameLists → ℕ → Option (List ℕ)
shown text N i = cond (ltb 0 (get_or N.lengths i 0)) (Some (take (get_or N.lengths i 0) (drop (get_or N.starts i 0) text))) None

-- a name stands in the text where the statement says
pub record InText (text : List ℕ) (s : Stmt) : Type 0 where
  pub bytes : take (name_size s) (drop (name_place s) text) ≡ name_of s
  pub inside : name_place s + name_size s ≤ length text

-- an atom that is named is none of the numbers 0 and above the greatest, and its name is not empty
pub record Named (s : Stmt) (a : ℕ) : Type 0 where
  pub above : 0 < a
  pub under : a ≤ greatest_in s
  pub some : 0 < name_size s

sole_is : (zs : List ℤ) (a : ℕ) → sole_atom zs ≡ Some a → (0 < a) × (a ≤ greatest (map nat_abs zs))
sole_is [] a e = absurd cc
sole_is (pos zero ∷ []) a e = absurd cc
sole_is (pos (suc n) ∷ []) a e = let same : suc n ≡ a = cc in (omega arith, omega arith)
sole_is (negsuc n ∷ []) a e = absurd cc
sole_is (y ∷ z ∷ zs) a e = absurd cc

not_empty : (b : Bool) (zs : List ℤ) (a : ℕ) → cond b None (sole_atom zs) ≡ Some a → (b ≡ false) × (sole_atom zs ≡ Some a)
not_empty true zs a e = absurd cc
not_empty false zs a e = (refl, e)

named_is : (s : Stmt) (a : ℕ) → atom_named s ≡ Some a → Named s a
named_is (rule ρ) a e = absurd cc
named_is (output place name zs) a e =
    let t = not_empty (eqb (length name) 0) zs a e in
    let sole = sole_is zs a t.1 in
    let some : 0 < length name = elim (cases_lt 0 (length name)) [ inl above ↦ above | inr none ↦ absurd (eqb-false (length name) 0 t.0 (omega arith)) ] in
    record { above = sole.0; under = sole.1; some = some }
named_is (assumption zs) a e = absurd cc
named_is (skipped kind rest) a e = absurd cc

module _ (text : List ℕ) (i : ℕ) where
  -- the lists have an item for the atom, and its name, if it has one, lies inside the text
  pub record Room (N : NameLists) : Type 0 where
    pub in_starts : i < length N.starts
    pub in_lengths : i < length N.lengths
    pub inside : 0 < get_or N.lengths i 0 → get_or N.starts i 0 + get_or N.lengths i 0 ≤ length text

  -- after a statement that names an atom, if any
  pub record Step (N : NameLists) (s : Stmt) (o : Option ℕ) (M : NameLists) : Type 0 where
    pub room : Room M
    pub told : shown text M i ≡ option_or (shown text N i) (cond (is_atom (suc i) o) (Some (name_of s)) None)

  unchanged : (N : NameLists) (s : Stmt) (o : Option ℕ) → Room N → option_or (shown text N i) (cond (is_atom (suc i) o) (Some (name_of s)) None) ≡ shown text N i → Step N s o N
  unchanged N s o room e = record { room = room; told = sym e }

  else_none : (o : Option (List ℕ)) → option_or o None ≡ o
  else_none None = refl
  else_none (Some x) = refl

  module _ (N : NameLists) (s : Stmt) (a : ℕ) (room : Room N) (named : Named s a) where
    -- another atom's name
    other : eqb a (suc i) ≡ false → Step N s (Some a) (named_by N s (Some a))
    other e =
        let none = ap (λ b. option_or (shown text N i) (cond b (Some (name_of s)) None)) e ∙ else_none (shown text N i) in
        let j = a - 1 in
        cond_both (eqb (get_or N.lengths j 0) 0) _ N (Step N s (Some a))
        (λ _. let apart : i ≢ j = λ q. eqb-false a (suc i) e (omega (arith, named.above)) in
        let start = get_or-set_other N.starts j i (name_place s) 0 apart in
        let size = get_or-set_other N.lengths j i (name_size s) 0 apart in
        record {
          room = record {
            in_starts = omega (arith, length-set N.starts j (name_place s), room.in_starts);
            in_lengths = omega (arith, length-set N.lengths j (name_size s), room.in_lengths);
            inside = λ h. omega (arith, start, size, room.inside (omega (arith, size)));
          };
          told = ap (λ n. cond (ltb 0 n) (Some (take n (drop (get_or (set N.starts j (name_place s)) i 0) text))) None) size
              ∙ ap (λ n. cond (ltb 0 (get_or N.lengths i 0)) (Some (take (get_or N.lengths i 0) (drop n text))) None) start
              ∙ sym none;
        })
        (λ _. unchanged N s (Some a) room none)

    -- the atom's own name, where it has none yet
    given : InText text s → a ≡ suc i → get_or N.lengths i 0 ≡ 0 → Step N s (Some a) (named_by N s (Some a))
    given here e none =
        let j = a - 1 in
        let place : j ≡ i = omega arith in
        let first : eqb (get_or N.lengths j 0) 0 ≡ true = eq-eqb (get_or N.lengths j 0) 0 (ap (λ k. get_or N.lengths k 0) place ∙ none) in
        let M : NameLists = record { starts = set N.starts j (name_place s); lengths = set N.lengths j (name_size s) } in
        let start : get_or M.starts i 0 ≡ name_place s = ap (λ k. get_or (set N.starts k (name_place s)) i 0) place ∙ get_or-set_same N.starts i (name_place s) 0 room.in_starts in
        let size : get_or M.lengths i 0 ≡ name_size s = ap (λ k. get_or (set N.lengths k (name_size s)) i 0) place ∙ get_or-set_same N.lengths i (name_size s) 0 room.in_lengths in
        let is_shown : shown text M i ≡ Some (name_of s) =
        ap (λ n. cond (ltb 0 n) (Some (take n (drop (get_or M.starts i 0) text))) None) size
        ∙ cond-true (ltb 0 (name_size s)) _ _ (lt-ltb 0 (name_size s) named.some)
        ∙ ap (λ n. Some (take (name_size s) (drop n text))) start ∙ ap Some here.bytes in
        let was_none : shown text N i ≡ None = cond-false (ltb 0 (get_or N.lengths i 0)) _ _ (ap (ltb 0) none) in
        subst (Step N s (Some a)) (sym (cond-true (eqb (get_or N.lengths j 0) 0) M N first)) (record {
          room = record {
            in_starts = omega (arith, length-set N.starts j (name_place s), room.in_starts);
            in_lengths = omega (arith, length-set N.lengths j (name_size s), room.in_lengths);
            inside = λ h. omega (arith, start, size, here.inside);
          };
          told = is_shown ∙ sym (ap (λ o. option_or o (cond (eqb a (suc i)) (Some (name_of s)) None)) was_none ∙ cond-true (eqb a (suc i)) _ _ (eq-eqb a (suc i) e));
        })

    -- the atom's own name, where it has one already
    kept : a ≡ suc i → 0 < get_or N.lengths i 0 → Step N s (Some a) (named_by N s (Some a))
    kept e some =
        let j = a - 1 in
        let place : i ≡ j = omega arith in
        let late : eqb (get_or N.lengths j 0) 0 ≡ false = ne_eqb (get_or N.lengths j 0) 0 (λ q. omega (arith, ap (λ k. get_or N.lengths k 0) place)) in
        let was_shown = cond-true (ltb 0 (get_or N.lengths i 0)) _ None (lt-ltb 0 (get_or N.lengths i 0) some) in
        subst (Step N s (Some a)) (sym (cond-false (eqb (get_or N.lengths j 0) 0) _ N late)) (unchanged N s (Some a) room (ap (λ o. option_or o (cond (eqb a (suc i)) (Some (name_of s)) None)) was_shown ∙ sym was_shown))

  step_by : (N : NameLists) (s : Stmt) (o : Option ℕ) → atom_named s ≡ o → Room N → InText text s → Step N s o (named_by N s o)
  step_by N s None e room here = unchanged N s None room (else_none (shown text N i))
  step_by N s (Some a) e room here =
      let named = named_is s a e in
      elim (cases_Bool (eqb a (suc i))) [
        | inr differs ↦ other N s a room named differs
        | inl same ↦ elim (cases_lt 0 (get_or N.lengths i 0)) [
          | inl some ↦ kept N s a room named (eqb-true a (suc i) same) some
          | inr none ↦ given N s a room named here (eqb-true a (suc i) same) (omega arith)
        ]
      ]

  else_assoc : (o : Option (List ℕ)) (b : Bool) (x : List ℕ) (p : Option (List ℕ)) → option_or (option_or o (cond b (Some x) None)) p ≡ option_or o (cond b (Some x) p)
  else_assoc None true x p = refl
  else_assoc None false x p = refl
  else_assoc (Some y) b x p = refl

  pub record Told (N : NameLists) (ss : List Stmt) : Type 0 where
    pub room : Room (with_names N ss)
    pub told : shown text (with_names N ss) i ≡ option_or (shown text N i) (first_name (suc i) ss)

  pub names_told : (N : NameLists) (ss : List Stmt) → Room N → Each (InText text) ss → Told N ss
  unfolding with_names
  names_told N [] room here = record { room = room; told = sym (else_none (shown text N i)) }
  names_told N (s ∷ ss) room here =
      let a = step_by N s (atom_named s) refl room here.0 in
      let b = names_told (with_name N s) ss a.room here.1 in
      record { room = b.room; told = b.told ∙ ap (λ o. option_or o (first_name (suc i) ss)) a.told ∙ else_assoc (shown text N i) (is_atom (suc i) (atom_named s)) (name_of s) (first_name (suc i) ss) }

-- no atom above the greatest has a name

not_atom : (a : ℕ) (s : Stmt) (o : Option ℕ) → atom_named s ≡ o → greatest_in s < a → is_atom a o ≡ false
not_atom a s None e h = refl
not_atom a s (Some b) e h = ne_eqb b a (λ q. omega (arith, (named_is s b e).under))

pub none_named : (a : ℕ) (ss : List Stmt) → atoms_of ss < a → first_name a ss ≡ None
unfolding atoms_of
none_named a [] h = refl
none_named a (s ∷ ss) h = cond-false (is_atom a (atom_named s)) _ _ (not_atom a s (atom_named s) refl (omega arith)) ∙ none_named a ss (omega arith)

-- the names of a program stand in its text

in_text : (text : List ℕ) (at : ℕ) (s : Stmt) (rest : List ℕ) → at ≤ length text → drop at text ≡ line_of s ++ rest → Placed at s → InText text s
in_text text at (rule ρ) rest l e placed = record { bytes = refl; inside = omega arith }
in_text text at (output place name zs) rest l e placed =
    let after = (counted zs ++ codes "\n") ++ rest in
    let here : drop at text ≡ before_name name ++ (name ++ after) = e ∙ append_assoc (before_name name) (name ++ (counted zs ++ codes "\n")) rest ∙ ap (before_name name ++◌) (append_assoc name (counted zs ++ codes "\n") rest) in
    let stands : drop place text ≡ name ++ after = ap (λ n. drop n text) placed ∙ drop_after text at (before_name name) (name ++ after) here in
    let size = ap length here ∙ length-append (before_name name) (name ++ after) in
    record {
      bytes = ap (take (length name)) stands ∙ take_at name after (length name) refl;
      inside = omega (arith, placed, size, length-append name after, length-drop at text);
    }
in_text text at (assumption zs) rest l e placed = record { bytes = refl; inside = omega arith }
in_text text at (skipped kind bytes) rest l e placed = record { bytes = refl; inside = omega arith }

pub all_in_text : (text : List ℕ) (at : ℕ) (ss : List Stmt) → at ≤ length text → drop at text ≡ lines_of ss ++ closing → AllPlaced at ss → Each (InText text) ss
unfolding lines_of
all_in_text text at [] l e placed = tt
all_in_text text at (s ∷ ss) l e placed =
    let here = e ∙ append_assoc (line_of s) (lines_of ss) closing in
    let size = ap length here ∙ length-append (line_of s) (lines_of ss ++ closing) in
    (in_text text at s (lines_of ss ++ closing) l here placed.0, all_in_text text (at + length (line_of s)) ss (omega (arith, size, length-drop at text)) (drop_after text at (line_of s) (lines_of ss ++ closing) here) placed.1)
