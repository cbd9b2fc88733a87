-- A text that the survey has counted: its statements are said, and the counts are the sizes of what they fill.
use Rattle.std.proofs.Common.{◌≡◌, ℕ, ◌≤◌, Bool, true, false, cond, ltb, leb, List, length, ℤ, is_ok, Ok, Err, Result, sym, refl, subst, arith}
use Rattle.std.proofs.lemmas.Bool.{and_parts, leb-true, ltb-false}
use Rattle.aspif.specs.Texts.{heading}
use Rattle.aspif.specs.declared.error.TextError.{TextError}
use Rattle.aspif.specs.declared.error.TextError.TheVariants.{WrongHeading, OverLimit}
use Rattle.reader.specs.Statements.{Stmt, assumed_in}
use Rattle.reader.specs.Scan.{nothing, with_all, counts_of, statements_from}
use Rattle.reader.specs.Read.{begins, has_room, statements_of}
use Rattle.reader.specs.Held.{Held}
use Rattle.reader.specs.Fill.{said_from, listed, integers_in, parts_in, starts_in}
use Rattle.reader.specs.declared.pieces.Counts.{Counts}
use Rattle.reader.proofs.Headings.{heading_long}
use Rattle.reader.proofs.Wholes.{whole, never, integers_counted, assumed_counted, rules_counted}

pub record Surveyed (text : List ℕ) (C : Counts) (ss : List Stmt) : Type 0 where
  pub long : 10 ≤ length text
  pub short : length text ≤ 65536
  pub saying : said_from (length text) text 10 ≡ Ok ss
  pub atoms : C.atoms ≡ (with_all nothing ss).atoms
  pub integers : C.integers ≡ length (parts_in integers_in ss)
  pub starts : C.rules ≡ length (starts_in 0 ss)
  pub assumed : C.assumed ≡ length (parts_in assumed_in ss)
  pub bounded : C.integers ≤ 16384

ok_counted : (r : Result (List Stmt) TextError) → is_ok r ≡ true → (C : Counts) × (counts_of nothing r ≡ Ok C)
ok_counted (Ok ss) h = (with_all nothing ss, refl)
ok_counted (Err e) h = absurd cc

module _ (text : List ℕ) where
  counted : (ss : List Stmt) → 10 ≤ length text → length text ≤ 65536 → statements_from (length text) nothing text 10 ≡ Ok ss → Surveyed text (with_all nothing ss) ss
  counted ss long short e =
      let w = whole (length text) nothing text 10 ss refl e in
      let C = with_all nothing ss in
      let kept = (and_parts (leb C.rules 2048) _ w.kept).1 in
      record {
        long = long;
        short = short;
        saying = w.plainly;
        atoms = refl;
        integers = omega (arith, integers_counted nothing ss);
        starts = omega (arith, rules_counted nothing 0 ss);
        assumed = omega (arith, assumed_counted nothing ss);
        bounded = leb-true C.integers 16384 (and_parts (leb C.integers 16384) _ kept).0;
      }

  by_statements : (C : Counts) (r : Result (List Stmt) TextError) → 10 ≤ length text → length text ≤ 65536 → statements_from (length text) nothing text 10 ≡ r → counts_of nothing r ≡ Ok C → Surveyed text C (listed r)
  by_statements C (Ok ss) long short e h = let same : with_all nothing ss ≡ C = cc in subst (λ D. Surveyed text D ss) same (counted ss long short e)
  by_statements C (Err x) long short e h = never h

  by_tests : (C : Counts) (t u : Bool) → ltb 65536 (length text) ≡ t → begins heading text ≡ u → counts_of nothing (cond t (Err (OverLimit 0)) (cond u (statements_from (length text) nothing text 10) (Err WrongHeading))) ≡ Ok C → Surveyed text C (listed (cond t (Err (OverLimit 0)) (cond u (statements_from (length text) nothing text 10) (Err WrongHeading))))
  by_tests C true u s b h = never h
  by_tests C false true s b h = by_statements C (statements_from (length text) nothing text 10) (heading_long text (sym b)) (ltb-false 65536 (length text) s) refl h
  by_tests C false false s b h = never h

  pub surveyed : (C : Counts) → counts_of nothing (statements_of text) ≡ Ok C → Surveyed text C (listed (statements_of text))
  unfolding statements_of
  surveyed C h = by_tests C (ltb 65536 (length text)) (begins heading text) refl refl h

  pub read_again : is_ok (statements_of text) ≡ true → (C : Counts) × Surveyed text C (listed (statements_of text))
  read_again h = let c = ok_counted (statements_of text) h in (c.0, surveyed c.0 c.1)

-- the lists are long enough
pub record Roomy (C : Counts) (integers starts places lengths assumed : ℕ) : Type 0 where
  pub for_integers : C.integers ≤ integers
  pub for_starts : C.rules ≤ starts
  pub for_places : C.atoms ≤ places
  pub for_lengths : C.atoms ≤ lengths
  pub for_assumed : C.assumed ≤ assumed

pub roomy : (C : Counts) (i s p l a : ℕ) → has_room C i s p l a ≡ true → Roomy C i s p l a
roomy C i s p l a h =
    let one = and_parts (leb C.integers i) _ h in
    let two = and_parts (leb C.rules s) _ one.1 in
    let three = and_parts (leb C.atoms p) _ two.1 in
    let four = and_parts (leb C.atoms l) _ three.1 in
    record {
      for_integers = leb-true C.integers i one.0;
      for_starts = leb-true C.rules s two.0;
      for_places = leb-true C.atoms p three.0;
      for_lengths = leb-true C.atoms l four.0;
      for_assumed = leb-true C.assumed a four.1;
    }

pub same_held : {i j a b : List ℤ} {s t p q l m : List ℕ} → i ≡ j → s ≡ t → p ≡ q → l ≡ m → a ≡ b → ◌≡◌ {A = Held} (record { integers = i; starts = s; places = p; lengths = l; assumed = a }) (record { integers = j; starts = t; places = q; lengths = m; assumed = b })
same_held e f g h k = cc
