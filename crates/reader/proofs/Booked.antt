-- What was filled makes the book of the text.
use Rattle.std.proofs.Common.{◌≡◌, ℕ, zero, suc, ◌+◌, ◌-◌, ◌<◌, ◌≤◌, Bool, true, false, cond, eqb, ltb, List, [], ◌∷◌, ◌++◌, map, length, get_or, take, drop, set, replicate, ℤ, nat_abs, is_ok, Some, None, Ok, Err, Result, sym, refl, ap, ◌∙◌, subst, inl, inr, arith, length-append, Option}
use lib.Seq.{sets, length-sets}
use Rattle.std.specs.List.{AllByRecursion as Each}
use Rattle.std.proofs.ByRecursion.{All-append}
use Rattle.std.proofs.lemmas.List.{take_at, length-take-le, length-set, length-replicate, get_or-replicate, get_or_append_left, get_or-take, get_or_past}
use Rattle.std.proofs.lemmas.Bool.{cases_lt, cond-true, cond-false, cond_both}
use Rattle.std.specs.Option.{option_or}
use Rattle.base.proofs.Puts.{sets_front}
use Rattle.book.specs.Rules.{Rules, Atom, Literal, LawfulRule, Lawful}
use Rattle.book.specs.Encoding.{encode, starts_from}
use Rattle.numbers.specs.Numbers.{numbers_verdict, name_in}
use Rattle.numbers.specs.NumbersLaw.{NamesInside, Encodes}
use Rattle.numbers.specs.declared.lists.RuleLists.{RuleLists}
use Rattle.numbers.proofs.Encoded.{faithful}
use Rattle.aspif.specs.Texts.{heading, closing}
use Rattle.aspif.specs.declared.error.TextError.{TextError}
use Rattle.aspif.specs.declared.error.TextError.TheVariants.{TooShort}
use Rattle.reader.specs.Fields.{and_then}
use Rattle.reader.specs.Statements.{Stmt, rule, output, assumption, skipped, greatest, greatest_in, rules_in}
use Rattle.reader.specs.Program.{lines_of, rules_of, atoms_of, sizes_of, Fits, Program}
use Rattle.reader.specs.Fill.{atom_named, name_place, name_size, NameLists, both, named_by, with_name, with_names, listed}
use Rattle.reader.specs.Held.{Held, held_after, has_room_in}
use Rattle.reader.specs.Read.{statements_of, room_tested, read_answer, after_read, unnamed}
use Rattle.reader.specs.ReadLaw.{integers_together, starts_together, assumed_together, names_together, first_name, Fronts, BookOf, FillsTheBook}
use Rattle.reader.specs.declared.pieces.Counts.{Counts}
use Rattle.reader.proofs.NamesGiven.{shown, Told, names_told, none_named, all_in_text}
use Rattle.reader.proofs.Programs.{reads_exactly_programs}
use Rattle.reader.proofs.Surveyed.{Roomy, roomy}
use Rattle.reader.proofs.Wholes.{starts_length}
use Rattle.reader.proofs.Together.{said_together}
use Rattle.reader.proofs.Wholes.{never}

-- The rules of statements keep the limits over the greatest atom.

atoms_under : (n : ℕ) (xs : List ℕ) → greatest xs ≤ n → Each (Atom 1024) xs → Each (Atom n) xs
atoms_under n [] h l = tt
atoms_under n (a ∷ xs) h l = ((l.0.0, omega arith), atoms_under n xs (omega arith) l.1)

literals_under : (n : ℕ) (zs : List ℤ) → greatest (map nat_abs zs) ≤ n → Each (Literal 1024) zs → Each (Literal n) zs
literals_under n [] h l = tt
literals_under n (z ∷ zs) h l = ((l.0.0, omega arith), literals_under n zs (omega arith) l.1)

greatest_atom : (xs : List ℕ) → Each (Atom 1024) xs → greatest xs ≤ 1024
greatest_atom [] l = omega arith
greatest_atom (a ∷ xs) l = omega (arith, l.0.1, greatest_atom xs l.1)

greatest_literal : (zs : List ℤ) → Each (Literal 1024) zs → greatest (map nat_abs zs) ≤ 1024
greatest_literal [] l = omega arith
greatest_literal (z ∷ zs) l = omega (arith, l.0.1, greatest_literal zs l.1)

few_in : (s : Stmt) → Fits s → greatest_in s ≤ 1024
few_in (rule ρ) l = omega (arith, greatest_atom ρ.head l.heads, greatest_literal ρ.body l.literals)
few_in (output place name zs) l = greatest_literal zs l.2
few_in (assumption zs) l = greatest_literal zs l
few_in (skipped kind rest) l = omega arith

rules_in_lem : (n : ℕ) (s : Stmt) → greatest_in s ≤ n → Fits s → Each (LawfulRule n) (rules_in s)
rules_in_lem n (rule ρ) h l = (record { heads = atoms_under n ρ.head (omega arith) l.heads; literals = literals_under n ρ.body (omega arith) l.literals; short_head = l.short_head; short_body = l.short_body }, tt)
rules_in_lem n (output place name zs) h l = tt
rules_in_lem n (assumption zs) h l = tt
rules_in_lem n (skipped kind rest) h l = tt

few_atoms_lem : (ss : List Stmt) → Each Fits ss → atoms_of ss ≤ 1024
unfolding atoms_of
few_atoms_lem [] l = omega arith
few_atoms_lem (s ∷ ss) l = omega (arith, few_in s l.0, few_atoms_lem ss l.1)

rules_lawful : (n : ℕ) (ss : List Stmt) → atoms_of ss ≤ n → Each Fits ss → Each (LawfulRule n) (rules_of ss)
unfolding atoms_of rules_of
rules_lawful n [] h l = tt
rules_lawful n (s ∷ ss) h l = All-append (LawfulRule n) (rules_in s) (rules_of ss) (rules_in_lem n s (omega arith) l.0) (rules_lawful n ss (omega arith) l.1)

abbrev rules_book : List Stmt → Rules
rules_book ss = record { atoms = atoms_of ss; rules = rules_of ss }

book_lawful : (text : List ℕ) (ss : List Stmt) → Program text ss → Lawful (rules_book ss)
book_lawful text ss p = record { few_atoms = few_atoms_lem ss p.limits.each; few_rules = p.limits.few_rules; each = rules_lawful (atoms_of ss) ss (omega arith) p.limits.each }

-- The fronts of lists that were filled.

front : {X : Type 0} (xs ys : List X) (n : ℕ) → n ≡ length ys → n ≤ length xs → take n (sets xs 0 ys) ≡ ys
front xs ys n e l = ap (take n) (sets_front xs ys (omega arith)) ∙ take_at ys (drop (length ys) xs) n (sym e)

cleared : (n : ℕ) (xs : List ℕ) (i : ℕ) → i < n → n ≤ length xs → get_or (unnamed n xs) i 0 ≡ 0
cleared n xs i h l =
    let zeros : List ℕ = replicate n 0 in
    let size : length zeros ≡ n = length-replicate n 0 in
    ap (λ q. get_or q i 0) (sets_front xs zeros (omega arith)) ∙ get_or_append_left zeros (drop (length zeros) xs) 0 i (omega arith) ∙ get_or-replicate n i 0 0 h

name_long : (N : NameLists) (s : Stmt) (o : Option ℕ) → (length (named_by N s o).starts ≡ length N.starts) × (length (named_by N s o).lengths ≡ length N.lengths)
name_long N s None = (refl, refl)
name_long N s (Some a) = cond_both (eqb (get_or N.lengths (a - 1) 0) 0) (record { starts = set N.starts (a - 1) (name_place s); lengths = set N.lengths (a - 1) (name_size s) }) N (λ M. (length M.starts ≡ length N.starts) × (length M.lengths ≡ length N.lengths))
    (λ _. (length-set N.starts (a - 1) (name_place s), length-set N.lengths (a - 1) (name_size s))) (λ _. (refl, refl))

names_long : (N : NameLists) (ss : List Stmt) → (length (with_names N ss).starts ≡ length N.starts) × (length (with_names N ss).lengths ≡ length N.lengths)
unfolding with_names
names_long N [] = (refl, refl)
names_long N (s ∷ ss) =
    let rest = names_long (with_name N s) ss in
    let one = name_long N s (atom_named s) in
    (rest.0 ∙ one.0, rest.1 ∙ one.1)

module _ (text : List ℕ) (ss : List Stmt) (p : Program text ss) (places lengths : List ℕ) (long : atoms_of ss ≤ length places) (wide : atoms_of ss ≤ length lengths) where
  abbrev before : NameLists
  before = both (unnamed (atoms_of ss) places) (unnamed (atoms_of ss) lengths)

  abbrev after : NameLists
  after = with_names before ss

  told : (i : ℕ) → i < atoms_of ss → Told text i before ss
  unfolding heading
  told i h =
      let n = atoms_of ss in
      let none = cleared n lengths i h wide in
      names_told text i before ss
      (record {
        in_starts = omega (arith, length-sets places 0 (replicate n 0));
        in_lengths = omega (arith, length-sets lengths 0 (replicate n 0));
        inside = λ some. absurd (omega (arith, none));
      })
      (all_in_text text 10 ss (omega (arith, ap length p.written, length-append heading (lines_of ss ++ closing))) (ap (drop 10) p.written) p.placed)

  none_before : (i : ℕ) → i < atoms_of ss → shown text before i ≡ None
  none_before i h = cond-false (ltb 0 (get_or before.lengths i 0)) _ _ (ap (ltb 0) (cleared (atoms_of ss) lengths i h wide))

  pub first_shown : (i : ℕ) → i < atoms_of ss → shown text after i ≡ first_name (suc i) ss
  first_shown i h = (told i h).told ∙ ap (λ o. option_or o (first_name (suc i) ss)) (none_before i h)

  pub starts_wide : atoms_of ss ≤ length after.starts
  starts_wide = omega (arith, (names_long before ss).0, length-sets places 0 (replicate (atoms_of ss) 0))

  pub lengths_wide : atoms_of ss ≤ length after.lengths
  lengths_wide = omega (arith, (names_long before ss).1, length-sets lengths 0 (replicate (atoms_of ss) 0))

  pub name_inside : (i : ℕ) → i < atoms_of ss → 0 < get_or after.lengths i 0 → get_or after.starts i 0 + get_or after.lengths i 0 ≤ length text
  name_inside i h = (told i h).room.inside

-- The lists as a book.

-- the five lists, filled with all statements together
abbrev held_together : List Stmt → Held → Held
held_together ss H = record {
  integers = integers_together ss H.integers;
  starts = starts_together ss H.starts;
  places = (names_together ss H.places H.lengths).starts;
  lengths = (names_together ss H.places H.lengths).lengths;
  assumed = assumed_together ss H.assumed;
}

module _ (text : List ℕ) (ss : List Stmt) (p : Program text ss) (old : Held) (room : Roomy (sizes_of ss) (length old.integers) (length old.starts) (length old.places) (length old.lengths) (length old.assumed)) (L : RuleLists) (f : Fronts (sizes_of ss) text (held_together ss old) L) where
  encodes : Encodes (rules_book ss) L
  encodes =
      let n = atoms_of ss in
      let N = after text ss p old.places old.lengths room.for_places room.for_lengths in
      let long = starts_wide text ss p old.places old.lengths room.for_places room.for_lengths in
      let wide = lengths_wide text ss p old.places old.lengths room.for_places room.for_lengths in
      let start : (i : ℕ) → i < n → get_or L.names.starts.now i 0 ≡ get_or N.starts i 0 = λ i h. ap (λ q. get_or q i 0) f.name_starts ∙ get_or-take n N.starts i 0 h in
      let size : (i : ℕ) → i < n → get_or L.names.lengths.now i 0 ≡ get_or N.lengths i 0 = λ i h. ap (λ q. get_or q i 0) f.name_lengths ∙ get_or-take n N.lengths i 0 h in
      record {
        atoms = f.all_atoms;
        integers = f.rule_integers ∙ front old.integers (encode (rules_of ss)) (length (encode (rules_of ss))) refl room.for_integers;
        starts = f.rule_starts ∙ front old.starts (starts_from 0 (rules_of ss)) (length (rules_of ss)) (sym (starts_length 0 (rules_of ss))) room.for_starts;
        names = subst (λ k. NamesInside k L.names) (sym f.all_atoms) (record {
          starts = ap length f.name_starts ∙ length-take-le n N.starts long;
          lengths = ap length f.name_lengths ∙ length-take-le n N.lengths wide;
          inside = λ i h some. omega (arith, start i h, size i h, ap length f.name_text, name_inside text ss p old.places old.lengths room.for_places room.for_lengths i h (omega (arith, size i h)));
        });
      }

  accepted : numbers_verdict L ≡ Ok tt
  accepted = ((faithful L).encoded (rules_book ss) (book_lawful text ss p) encodes).0

  name_is : (i : ℕ) → name_in L.names (suc i) ≡ first_name (suc i) ss
  name_is i =
      let n = atoms_of ss in
      let N = after text ss p old.places old.lengths room.for_places room.for_lengths in
      let size = ap (λ q. get_or q i 0) f.name_lengths in
      elim (cases_lt i n) [
        | inl h ↦
            ap (λ k. cond (ltb 0 k) (Some (take k (drop (get_or L.names.starts.now i 0) L.names.text.now))) None) (size ∙ get_or-take n N.lengths i 0 h)
            ∙ ap (λ k. cond (ltb 0 (get_or N.lengths i 0)) (Some (take (get_or N.lengths i 0) (drop k L.names.text.now))) None) (ap (λ q. get_or q i 0) f.name_starts ∙ get_or-take n N.starts i 0 h)
            ∙ ap (λ t. cond (ltb 0 (get_or N.lengths i 0)) (Some (take (get_or N.lengths i 0) (drop (get_or N.starts i 0) t))) None) f.name_text
            ∙ first_shown text ss p old.places old.lengths room.for_places room.for_lengths i h
        | inr past ↦
            let none = size ∙ get_or_past (take n N.lengths) i 0 (omega (arith, length-take-le n N.lengths (lengths_wide text ss p old.places old.lengths room.for_places room.for_lengths))) in
            cond-false (ltb 0 (get_or L.names.lengths.now i 0)) _ _ (ap (ltb 0) none) ∙ sym (none_named (suc i) ss (omega arith))
      ]

  name_of : (a : ℕ) → 1 ≤ a → name_in L.names a ≡ first_name a ss
  name_of zero h = absurd (omega arith)
  name_of (suc i) h = name_is i

  book_of_lem : BookOf ss L
  book_of_lem = record {
    accepted = accepted;
    rules = ((faithful L).encoded (rules_book ss) (book_lawful text ss p) encodes).1;
    names = λ a h. cond-true (is_ok (numbers_verdict L)) (name_in L.names a) None (ap is_ok accepted) ∙ name_of a h;
  }

-- From the answer of a reading to the book.

record Answered (text : List ℕ) (room : Counts → Bool) (C : Counts) (ss : List Stmt) : Type 0 where
  saying : statements_of text ≡ Ok ss
  sizes : sizes_of ss ≡ C
  fits : room C ≡ true

room_passed : (room : Counts → Bool) (D C : Counts) (b : Bool) → room D ≡ b → cond b (Ok D) (Err TooShort) ≡ Ok C → (D ≡ C) × (room C ≡ true)
room_passed room D C true e h = let same : D ≡ C = cc in (same, ap room (sym same) ∙ e)
room_passed room D C false e h = never h

answered_by : (text : List ℕ) (room : Counts → Bool) (C : Counts) (r : Result (List Stmt) TextError) → statements_of text ≡ r → and_then r (λ ss. room_tested room (sizes_of ss)) ≡ Ok C → Answered text room C (listed r)
answered_by text room C (Ok ss) e h = let q = room_passed room (sizes_of ss) C (room (sizes_of ss)) refl h in record { saying = e; sizes = q.0; fits = q.1 }
answered_by text room C (Err x) e h = never h

answered : (text : List ℕ) (room : Counts → Bool) (C : Counts) → read_answer text room ≡ Ok C → Answered text room C (listed (statements_of text))
answered text room C h = answered_by text room C (statements_of text) refl (sym ((said_together text).answer room) ∙ h)

held_is : (text : List ℕ) (ss : List Stmt) (old : Held) → held_after ss old ≡ held_together ss old
held_is text ss old =
    let together = said_together text in
    let integers = together.integers ss old.integers in
    let starts = together.starts ss old.starts in
    let names = together.names ss old.places old.lengths in
    let assumed = together.assumed ss old.assumed in
    cc

-- with the lists as they are found afterwards
pub found_book : (text : List ℕ) (old : Held) (r : Result Counts TextError) → r ≡ read_answer text (has_room_in old) → (new : Held) → new ≡ after_read r (held_after (listed (statements_of text)) old) old → FillsTheBook r text new
found_book text old (Ok D) e new found C L h f =
    let ss = listed (statements_of text) in
    let same : D ≡ C = cc in
    let a = answered text (has_room_in old) C (sym e ∙ ap Ok same) in
    let fronts = subst (λ H. Fronts C text H L) (found ∙ held_is text ss old) f in
    book_of_lem text ss ((reads_exactly_programs text).only_programs_are_read ss a.saying) old (roomy (sizes_of ss) _ _ _ _ _ (ap (has_room_in old) a.sizes ∙ a.fits)) L (subst (λ E. Fronts E text (held_together ss old) L) (sym a.sizes) fronts)
found_book text old (Err x) e new found C L h f = never h
