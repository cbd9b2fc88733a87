-- The statements of a text, and the first fault from the left where it is none.
use Rattle.std.specs.Prelude.{ℕ, zero, suc, ◌+◌, max, Bool, cond, ◌&&◌, List, [], ◌∷◌, length, Ok, Err, Result, ◌==◌, nat_le}
use Rattle.book.specs.Encoding.{encode}
use Rattle.aspif.specs.declared.error.TextError.{TextError}
use Rattle.aspif.specs.declared.error.TextError.TheVariants.{Malformed, OverLimit, UnexpectedEnd}
use Rattle.reader.specs.Fields.{and_then}
use Rattle.reader.specs.Statements.{Stmt, greatest_in, rules_in, assumed_in}
use Rattle.reader.specs.Lines.{Line, ended, said, line_at}
use Rattle.reader.specs.declared.pieces.Counts.{Counts}

abbrev pub nothing : Counts
nothing = record { atoms = 0; rules = 0; integers = 0; assumed = 0 }

-- one statement more
abbrev pub with_one : Counts → Stmt → Counts
with_one C s = record {
  atoms = max C.atoms (greatest_in s);
  rules = C.rules + length (rules_in s);
  integers = C.integers + length (encode (rules_in s));
  assumed = C.assumed + length (assumed_in s);
}

abbrev pub with_all : Counts → List Stmt → Counts
with_all C [] = C
with_all C (s ∷ ss) = with_all (with_one C s) ss

-- the limits on all lines together
abbrev pub keeps : Counts → Bool
keeps C = nat_le C.rules 2048 && (nat_le C.integers 16384 && nat_le C.assumed 1024)

abbrev pub before : Stmt → Result (List Stmt) TextError → Result (List Stmt) TextError
before s (Ok ss) = Ok (s ∷ ss)
before s (Err e) = Err e

abbrev pub list_by : (Counts → ℕ → Result (List Stmt) TextError) → Counts → List ℕ → ℕ → Line → Result (List Stmt) TextError
list_by next C text at (ended end) = cond (end == length text) (Ok []) (Err (Malformed end))
list_by next C text at (said s end) = cond (keeps (with_one C s)) (before s (next (with_one C s) end)) (Err (OverLimit at))

-- the statements from a place on, with at most so many lines
unfoldable pub statements_from : ℕ → Counts → List ℕ → ℕ → Result (List Stmt) TextError
statements_from zero C text at = Err (UnexpectedEnd (length text))
statements_from (suc lines) C text at = and_then (line_at text at) (list_by (λ D next. statements_from lines D text next) C text at)

-- what statements come to
abbrev pub counts_of : Counts → Result (List Stmt) TextError → Result Counts TextError
counts_of C (Ok ss) = Ok (with_all C ss)
counts_of C (Err e) = Err e
