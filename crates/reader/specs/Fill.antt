-- What the lists of the caller are filled with.
use Rattle.std.specs.Prelude.{ℕ, zero, suc, ◌+◌, ◌-◌, cond, List, [], ◌∷◌, ◌++◌, length, ℤ, pos, negsuc, Some, None, Ok, Err, Option, Result, ◌==◌, slice_index, slice_set}
use Rattle.base.specs.Pens.{page, has_room, filled}
use Rattle.base.specs.Sinks.{Takes}
use Rattle.base.specs.declared.pen.Pen.{Pen}
use Rattle.base.specs.declared.short.TooShort.{TooShort}
use Rattle.book.specs.Encoding.{encode, starts_from}
use Rattle.aspif.specs.declared.error.TextError.{TextError}
use Rattle.aspif.specs.declared.error.TextError.TheVariants.{UnexpectedEnd}
use Rattle.reader.specs.Fields.{and_then}
use Rattle.reader.specs.Statements.{Stmt, rule, output, assumption, skipped, rules_in}
use Rattle.reader.specs.Lines.{Line, ended, said, line_at}
use Rattle.reader.specs.Scan.{before}

-- the statements from a place on, as far as there are any, with at most so many lines; no limit is tested
abbrev pub said_by : (ℕ → Result (List Stmt) TextError) → Line → Result (List Stmt) TextError
said_by next (ended end) = Ok []
said_by next (said s end) = before s (next end)

unfoldable pub said_from : ℕ → List ℕ → ℕ → Result (List Stmt) TextError
said_from zero text at = Err (UnexpectedEnd (length text))
said_from (suc lines) text at = and_then (line_at text at) (said_by (said_from lines text))

abbrev pub listed : Result (List Stmt) TextError → List Stmt
listed (Ok ss) = ss
listed (Err e) = []

-- a pen takes all of the items, where they fit
abbrev pub Puts : {X : Type 0} → Pen X → List X → Result (Unit {0}) TooShort → Pen X → Type 0
Puts = Takes (λ p xs. has_room (page p) xs) filled

-- what a part of each statement comes to
unfoldable pub parts_in : {X : Type 0} → (Stmt → List X) → List Stmt → List X
parts_in part [] = []
parts_in part (s ∷ ss) = part s ++ parts_in part ss

abbrev pub integers_in : Stmt → List ℤ
integers_in s = encode (rules_in s)

-- where the rules start, if the first one starts at a given place
unfoldable pub starts_in : ℕ → List Stmt → List ℕ
starts_in start [] = []
starts_in start (s ∷ ss) = starts_from start (rules_in s) ++ starts_in (start + length (encode (rules_in s))) ss

-- Names.

-- the atom that literals are alone, if they are
abbrev pub sole_atom : List ℤ → Option ℕ
sole_atom [] = None
sole_atom (pos zero ∷ []) = None
sole_atom (pos (suc a) ∷ []) = Some (suc a)
sole_atom (negsuc a ∷ []) = None
sole_atom (y ∷ z ∷ zs) = None

-- the atom that a statement names, if any
abbrev pub atom_named : Stmt → Option ℕ
atom_named (rule ρ) = None
atom_named (output at name zs) = cond (length name == 0) None (sole_atom zs)
atom_named (assumption zs) = None
atom_named (skipped kind rest) = None

-- where a statement's name stands, and how many bytes it has
abbrev pub name_place : Stmt → ℕ
name_place (rule ρ) = 0
name_place (output at name zs) = at
name_place (assumption zs) = 0
name_place (skipped kind rest) = 0

abbrev pub name_size : Stmt → ℕ
name_size (rule ρ) = 0
name_size (output at name zs) = length name
name_size (assumption zs) = 0
name_size (skipped kind rest) = 0

-- for each atom, from 1 on, where its name stands and how many bytes it has
pub record NameLists : Type 0 where
  pub starts : List ℕ
  pub lengths : List ℕ

abbrev pub both : List ℕ → List ℕ → NameLists
both starts lengths = record { starts = starts; lengths = lengths }

-- an atom that has no name yet gets the one that the statement gives
abbrev pub named_by : NameLists → Stmt → Option ℕ → NameLists
named_by N s None = N
named_by N s (Some a) =
    cond (slice_index N.lengths (a - 1) == 0)
    (record { starts = slice_set N.starts (a - 1) (name_place s); lengths = slice_set N.lengths (a - 1) (name_size s) })
    N

abbrev pub with_name : NameLists → Stmt → NameLists
with_name N s = named_by N s (atom_named s)

unfoldable pub with_names : NameLists → List Stmt → NameLists
with_names N [] = N
with_names N (s ∷ ss) = with_names (with_name N s) ss
