-- What reading a text answers, and what it leaves in the caller's lists.
use Rattle.std.specs.Prelude.{◌≡◌, ℕ, ◌≤◌, Bool, true, false, cond, ◌&&◌, List, [], ◌∷◌, length, replicate, ℤ, Ok, Err, Result, ◌==◌, nat_le, nat_lt}
use Rattle.std.proofs.lemmas.List.Edits.{sets}
use Rattle.aspif.specs.Texts.{heading}
use Rattle.aspif.specs.declared.error.TextError.{TextError}
use Rattle.aspif.specs.declared.error.TextError.TheVariants.{WrongHeading, OverLimit, TooShort}
use Rattle.reader.specs.Fields.{and_then}
use Rattle.reader.specs.Statements.{Stmt, assumed_in}
use Rattle.reader.specs.Scan.{nothing, with_all, counts_of, statements_from}
use Rattle.reader.specs.Fill.{NameLists, both, integers_in, parts_in, starts_in, with_names}
use Rattle.reader.specs.declared.pieces.Counts.{Counts}

-- the bytes xs stand at the front of ys
abbrev pub begins : List ℕ → List ℕ → Bool
begins [] ys = true
begins (x ∷ xs) [] = false
begins (x ∷ xs) (y ∷ ys) = y == x && begins xs ys

-- the statements of a whole text
unfoldable pub statements_of : List ℕ → Result (List Stmt) TextError
statements_of text = cond (nat_lt 65536 (length text)) (Err (OverLimit 0)) (cond (begins heading text) (statements_from (length text) nothing text 10) (Err WrongHeading))

-- the lists hold what is counted
abbrev pub has_room : Counts → ℕ → ℕ → ℕ → ℕ → ℕ → Bool
has_room C integers starts name_starts name_lengths assumed =
    nat_le C.integers integers && (nat_le C.rules starts && (nat_le C.atoms name_starts && (nat_le C.atoms name_lengths && nat_le C.assumed assumed)))

-- what the lists hold after a text is read: each from its front on, and beyond that as before

unfoldable pub integers_after : List Stmt → List ℤ → List ℤ
integers_after ss xs = sets xs 0 (parts_in integers_in ss)

unfoldable pub starts_after : List Stmt → List ℕ → List ℕ
starts_after ss xs = sets xs 0 (starts_in 0 ss)

unfoldable pub assumed_after : List Stmt → List ℤ → List ℤ
assumed_after ss xs = sets xs 0 (parts_in assumed_in ss)

-- no atom of the text has a name before the outputs give one
abbrev pub unnamed : ℕ → List ℕ → List ℕ
unnamed atoms xs = sets xs 0 (replicate atoms 0)

unfoldable pub names_after : List Stmt → List ℕ → List ℕ → NameLists
names_after ss starts lengths =
    let atoms = (with_all nothing ss).atoms in
    with_names (both (unnamed atoms starts) (unnamed atoms lengths)) ss

-- the answer: what the text holds, where the lists have room for it

abbrev pub room_tested : (Counts → Bool) → Counts → Result Counts TextError
room_tested room C = cond (room C) (Ok C) (Err TooShort)

unfoldable pub read_answer : List ℕ → (Counts → Bool) → Result Counts TextError
read_answer text room = and_then (counts_of nothing (statements_of text)) (room_tested room)

-- a list after the answer: as it was, where the answer is a refusal
abbrev pub after_read : {X : Type 0} → Result Counts TextError → X → X → X
after_read (Ok C) new old = new
after_read (Err e) new old = old

-- The scan never runs out of lines: with more of them to spare, a text has the same verdict.
abbrev pub EveryTextHasItsVerdict : List ℕ → Type 0
EveryTextHasItsVerdict text = (lines : ℕ) → length text ≤ lines → statements_from lines nothing text 10 ≡ statements_from (length text) nothing text 10
