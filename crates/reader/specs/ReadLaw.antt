-- The laws of reading, in words of statements.
use Rattle.std.specs.Prelude.{◌≡◌, ℕ, ◌≤◌, Bool, false, cond, List, [], ◌∷◌, map, length, take, ℤ, Some, None, Ok, Option, Result, ◌==◌}
use Rattle.std.proofs.lemmas.List.Edits.{sets}
use Rattle.book.specs.Rules.{Rules, Lawful}
use Rattle.book.specs.Encoding.{encode, starts_from}
use Rattle.numbers.specs.Numbers.{numbers_verdict, numbers_book, numbers_name}
use Rattle.numbers.specs.declared.lists.RuleLists.{RuleLists}
use Rattle.aspif.specs.Write.{write_answer, write_into}
use Rattle.aspif.specs.declared.error.TextError.{TextError}
use Rattle.reader.specs.Fields.{and_then}
use Rattle.reader.specs.Statements.{Stmt, rule, output, assumption, skipped}
use Rattle.reader.specs.Program.{rules_of, assumed_of, atoms_of, sizes_of, Program}
use Rattle.reader.specs.Fill.{NameLists, both, with_names, listed, atom_named}
use Rattle.reader.specs.Read.{statements_of, room_tested, read_answer, unnamed, integers_after, starts_after, assumed_after, names_after}
use Rattle.reader.specs.Held.{Held}
use Rattle.reader.specs.declared.pieces.Counts.{Counts}

-- A text is read without refusal exactly where it is the program of some statements, and then as those.
pub record ReadsExactlyPrograms (text : List ℕ) : Type 0 where
  pub programs_are_read : (ss : List Stmt) → Program text ss → statements_of text ≡ Ok ss
  pub only_programs_are_read : (ss : List Stmt) → statements_of text ≡ Ok ss → Program text ss

-- What is answered and left in the lists, of the rules, assumed literals and greatest atom of all statements together.

abbrev pub answer_together : List ℕ → (Counts → Bool) → Result Counts TextError
answer_together text room = and_then (statements_of text) (λ ss. room_tested room (sizes_of ss))

abbrev pub integers_together : List Stmt → List ℤ → List ℤ
integers_together ss xs = sets xs 0 (encode (rules_of ss))

abbrev pub starts_together : List Stmt → List ℕ → List ℕ
starts_together ss xs = sets xs 0 (starts_from 0 (rules_of ss))

abbrev pub assumed_together : List Stmt → List ℤ → List ℤ
assumed_together ss xs = sets xs 0 (assumed_of ss)

abbrev pub names_together : List Stmt → List ℕ → List ℕ → NameLists
names_together ss places lengths = with_names (both (unnamed (atoms_of ss) places) (unnamed (atoms_of ss) lengths)) ss

pub record SaidTogether (text : List ℕ) : Type 0 where
  pub answer : (room : Counts → Bool) → read_answer text room ≡ answer_together text room
  pub integers : (ss : List Stmt) (xs : List ℤ) → integers_after ss xs ≡ integers_together ss xs
  pub starts : (ss : List Stmt) (xs : List ℕ) → starts_after ss xs ≡ starts_together ss xs
  pub assumed : (ss : List Stmt) (xs : List ℤ) → assumed_after ss xs ≡ assumed_together ss xs
  pub names : (ss : List Stmt) (places lengths : List ℕ) → names_after ss places lengths ≡ names_together ss places lengths

-- What `write` put at the front of a buffer, for a book with any rules, is read as those rules.
abbrev pub WrittenReadsBack : List ℕ → Type 0
WrittenReadsBack text =
    (R : Rules) (buffer : List ℕ) (n : ℕ) → Lawful R → write_answer R (length buffer) ≡ Ok n → text ≡ take n (write_into R buffer) → statements_of text ≡ Ok (map rule R.rules)

-- The lists that were filled make a book.

abbrev pub name_of : Stmt → List ℕ
name_of (rule ρ) = []
name_of (output place name zs) = name
name_of (assumption zs) = []
name_of (skipped kind rest) = []

abbrev pub is_atom : ℕ → Option ℕ → Bool
is_atom a None = false
is_atom a (Some b) = b == a

-- the name that the first output for an atom gives it
abbrev pub first_name : ℕ → List Stmt → Option (List ℕ)
first_name a [] = None
first_name a (s ∷ ss) = cond (is_atom a (atom_named s)) (Some (name_of s)) (first_name a ss)

-- the fronts of the lists that were filled, each as long as was answered, with the text that the names stand in
pub record Fronts (C : Counts) (text : List ℕ) (H : Held) (L : RuleLists) : Type 0 where
  pub all_atoms : L.atoms ≡ C.atoms
  pub rule_integers : L.integers.now ≡ take C.integers H.integers
  pub rule_starts : L.starts.now ≡ take C.rules H.starts
  pub name_text : L.names.text.now ≡ text
  pub name_starts : L.names.starts.now ≡ take C.atoms H.places
  pub name_lengths : L.names.lengths.now ≡ take C.atoms H.lengths

-- the book of the lists has the rules of the statements, and the names that they give
pub record BookOf (ss : List Stmt) (L : RuleLists) : Type 0 where
  pub accepted : numbers_verdict L ≡ Ok tt
  pub rules : numbers_book L ≡ record { atoms = atoms_of ss; rules = rules_of ss }
  pub names : (a : ℕ) → 1 ≤ a → numbers_name L a ≡ first_name a ss

-- What was filled is accepted as a book, and that is the book of the text.
abbrev pub FillsTheBook : Result Counts TextError → List ℕ → Held → Type 0
FillsTheBook answer text H = (C : Counts) (L : RuleLists) → answer ≡ Ok C → Fronts C text H L → BookOf (listed (statements_of text)) L
