-- Statements, and what the lists of a text hold of them.
use Rattle.std.specs.Prelude.{ℕ, max, List, [], ◌∷◌, map, ℤ, unsigned_abs}
use Rattle.book.specs.Rules.{Rule}

pub data Stmt : Type 0 where
  rule : Rule → Stmt
  -- a name, where it stands in the text, and the literals that it names
  output : ℕ → List ℕ → List ℤ → Stmt
  -- literals of the list that a sheet is opened with
  assumption : List ℤ → Stmt
  -- of a kind that is passed over, with the bytes between its kind and the newline
  skipped : ℕ → List ℕ → Stmt

-- the greatest atom of a list; 0 where there is none
abbrev pub greatest : List ℕ → ℕ
greatest [] = 0
greatest (a ∷ rest) = max a (greatest rest)

abbrev pub greatest_in : Stmt → ℕ
greatest_in (rule ρ) = max (greatest ρ.head) (greatest (map unsigned_abs ρ.body))
greatest_in (output at name zs) = greatest (map unsigned_abs zs)
greatest_in (assumption zs) = greatest (map unsigned_abs zs)
greatest_in (skipped kind rest) = 0

abbrev pub rules_in : Stmt → List Rule
rules_in (rule ρ) = ρ ∷ []
rules_in (output at name zs) = []
rules_in (assumption zs) = []
rules_in (skipped kind rest) = []

abbrev pub assumed_in : Stmt → List ℤ
assumed_in (rule ρ) = []
assumed_in (output at name zs) = []
assumed_in (assumption zs) = zs
assumed_in (skipped kind rest) = []
