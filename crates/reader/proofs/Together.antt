-- What statements hold together, part by part and counted.
use Rattle.std.proofs.Common.{◌≡◌, ℕ, ◌+◌, ◌≤◌, max, Bool, true, leb, List, [], ◌∷◌, ◌++◌, length, Ok, Err, Result, sym, refl, ap, ◌∙◌, append_assoc, arith, length-append}
use native.Mathlib.Nat.{max-zero}
use Rattle.std.proofs.lemmas.Bool.{and_parts, and_from, le-leb, leb-true}
use lib.Seq.{sets}
use Rattle.book.specs.Rules.{Rule}
use Rattle.book.specs.Encoding.{encode, encode_rule, starts_from}
use Rattle.aspif.specs.declared.error.TextError.{TextError}
use Rattle.reader.specs.Fields.{and_then}
use Rattle.reader.specs.Statements.{Stmt, rules_in, assumed_in}
use Rattle.reader.specs.Scan.{nothing, with_one, with_all, keeps, counts_of}
use Rattle.reader.specs.Fill.{both, with_names, integers_in, parts_in, starts_in}
use Rattle.reader.specs.Program.{rules_of, assumed_of, atoms_of, sizes_of}
use Rattle.reader.specs.Read.{statements_of, room_tested, read_answer, unnamed, integers_after, starts_after, assumed_after, names_after}
use Rattle.reader.specs.ReadLaw.{SaidTogether}
use Rattle.reader.specs.declared.pieces.Counts.{Counts}
use Rattle.reader.proofs.Wholes.{starts_length}
use Rattle.reader.proofs.Wholes.{rules_counted, integers_counted, assumed_counted}

encode_append : (xs ys : List Rule) → encode (xs ++ ys) ≡ encode xs ++ encode ys
encode_append [] ys = refl
encode_append (x ∷ xs) ys = ap (encode_rule x ++◌) (encode_append xs ys) ∙ sym (append_assoc (encode_rule x) (encode xs) (encode ys))

starts_append : (at : ℕ) (xs ys : List Rule) → starts_from at (xs ++ ys) ≡ starts_from at xs ++ starts_from (at + length (encode xs)) ys
starts_append at [] ys = ap (λ n. starts_from n ys) (omega arith)
starts_append at (x ∷ xs) ys =
    let n = at + length (encode_rule x) in
    let end : n + length (encode xs) ≡ at + length (encode_rule x ++ encode xs) = omega (arith, length-append (encode_rule x) (encode xs)) in
    ap (at ∷◌) (starts_append n xs ys ∙ ap (λ k. starts_from n xs ++ starts_from k ys) end)

pub integers_are : (ss : List Stmt) → parts_in integers_in ss ≡ encode (rules_of ss)
unfolding parts_in rules_of
integers_are [] = refl
integers_are (s ∷ ss) = ap (encode (rules_in s) ++◌) (integers_are ss) ∙ sym (encode_append (rules_in s) (rules_of ss))

pub starts_are : (start : ℕ) (ss : List Stmt) → starts_in start ss ≡ starts_from start (rules_of ss)
unfolding starts_in rules_of
starts_are start [] = refl
starts_are start (s ∷ ss) = ap (starts_from start (rules_in s) ++◌) (starts_are (start + length (encode (rules_in s))) ss) ∙ sym (starts_append start (rules_in s) (rules_of ss))

pub assumed_are : (ss : List Stmt) → parts_in assumed_in ss ≡ assumed_of ss
unfolding parts_in assumed_of
assumed_are [] = refl
assumed_are (s ∷ ss) = ap (assumed_in s ++◌) (assumed_are ss)

-- What is counted line by line is counted of all statements together.

atoms_counted : (C : Counts) (ss : List Stmt) → (with_all C ss).atoms ≡ max C.atoms (atoms_of ss)
unfolding atoms_of
atoms_counted C [] = sym (max-zero C.atoms)
atoms_counted C (s ∷ ss) = atoms_counted (with_one C s) ss ∙ omega arith

pub record Counted (ss : List Stmt) (C : Counts) : Type 0 where
  pub atoms : C.atoms ≡ atoms_of ss
  pub rules : C.rules ≡ length (rules_of ss)
  pub integers : C.integers ≡ length (encode (rules_of ss))
  pub assumed : C.assumed ≡ length (assumed_of ss)

pub counted_together : (ss : List Stmt) → Counted ss (with_all nothing ss)
counted_together ss = record {
  atoms = omega (arith, atoms_counted nothing ss);
  rules = omega (arith, rules_counted nothing 0 ss, ap length (starts_are 0 ss), starts_length 0 (rules_of ss));
  integers = omega (arith, integers_counted nothing ss, ap length (integers_are ss));
  assumed = omega (arith, assumed_counted nothing ss, ap length (assumed_are ss));
}

abbrev counts : ℕ → ℕ → ℕ → ℕ → Counts
counts a r i x = record { atoms = a; rules = r; integers = i; assumed = x }

pub sizes_are : (ss : List Stmt) → with_all nothing ss ≡ sizes_of ss
sizes_are ss =
    let c = counted_together ss in
    let C = with_all nothing ss in
    ap (λ n. counts n C.rules C.integers C.assumed) c.atoms
    ∙ ap (λ n. counts (atoms_of ss) n C.integers C.assumed) c.rules
    ∙ ap (λ n. counts (atoms_of ss) (length (rules_of ss)) n C.assumed) c.integers
    ∙ ap (counts (atoms_of ss) (length (rules_of ss)) (length (encode (rules_of ss)))) c.assumed

answer_by : (room : Counts → Bool) (r : Result (List Stmt) TextError) → and_then (counts_of nothing r) (room_tested room) ≡ and_then r (λ ss. room_tested room (sizes_of ss))
answer_by room (Ok ss) = ap (room_tested room) (sizes_are ss)
answer_by room (Err e) = refl

pub said_together : (text : List ℕ) → SaidTogether text
unfolding read_answer integers_after starts_after assumed_after names_after
said_together text = record {
  answer = λ room. answer_by room (statements_of text);
  integers = λ ss xs. ap (sets xs 0) (integers_are ss);
  starts = λ ss xs. ap (sets xs 0) (starts_are 0 ss);
  assumed = λ ss xs. ap (sets xs 0) (assumed_are ss);
  names = λ ss places lengths. ap (λ n. with_names (both (unnamed n places) (unnamed n lengths)) ss) (counted_together ss).atoms;
}

-- The limits hold of all statements together exactly where they hold of what was counted.

pub rules_kept : (C : Counts) → keeps C ≡ true → C.rules ≤ 2048
rules_kept C h = leb-true C.rules 2048 (and_parts (leb C.rules 2048) _ h).0

pub integers_kept : (C : Counts) → keeps C ≡ true → C.integers ≤ 16384
integers_kept C h = leb-true C.integers 16384 (and_parts (leb C.integers 16384) _ (and_parts (leb C.rules 2048) _ h).1).0

pub assumed_kept : (C : Counts) → keeps C ≡ true → C.assumed ≤ 1024
assumed_kept C h = leb-true C.assumed 1024 (and_parts (leb C.integers 16384) _ (and_parts (leb C.rules 2048) _ h).1).1

pub kept_from : (C : Counts) → C.rules ≤ 2048 → C.integers ≤ 16384 → C.assumed ≤ 1024 → keeps C ≡ true
kept_from C r i a = and_from (leb C.rules 2048) _ (le-leb _ _ r) (and_from (leb C.integers 16384) _ (le-leb _ _ i) (le-leb _ _ a))

-- statements only add
pub record Grown (C D : Counts) : Type 0 where
  pub rules : C.rules ≤ D.rules
  pub integers : C.integers ≤ D.integers
  pub assumed : C.assumed ≤ D.assumed

pub grown : (C : Counts) (ss : List Stmt) → Grown C (with_all C ss)
grown C [] = record { rules = omega arith; integers = omega arith; assumed = omega arith }
grown C (s ∷ ss) = let g = grown (with_one C s) ss in record { rules = omega (arith, g.rules); integers = omega (arith, g.integers); assumed = omega (arith, g.assumed) }

pub kept_before : (C : Counts) (ss : List Stmt) → keeps (with_all C ss) ≡ true → keeps C ≡ true
kept_before C ss h =
    let D = with_all C ss in
    let g = grown C ss in
    kept_from C (omega (arith, g.rules, rules_kept D h)) (omega (arith, g.integers, integers_kept D h)) (omega (arith, g.assumed, assumed_kept D h))
