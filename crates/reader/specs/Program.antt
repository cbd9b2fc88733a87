-- Program texts in words of statements: how each is written, and which texts are programs.
use Rattle.std.specs.Prelude.{◌≡◌, ℕ, ◌+◌, ◌≤◌, max, true, ◌≢◌, List, [], ◌∷◌, ◌++◌, length, ℤ, pos, codes, decimal}
use Rattle.std.specs.List.{AllByRecursion as Each}
use Rattle.book.specs.Rules.{Rule, Literal, LawfulRule}
use Rattle.book.specs.Encoding.{encode}
use Rattle.aspif.specs.Texts.{heading, closing, spaced, rule_line}
use Rattle.reader.specs.Statements.{Stmt, rule, output, assumption, skipped, greatest_in, rules_in, assumed_in}
use Rattle.reader.specs.Lines.{passed_over}
use Rattle.reader.specs.declared.pieces.Counts.{Counts}

-- The text of statements: the heading, a line for each, and the closing line.

-- how many numbers, and then the numbers, each after a space
abbrev pub counted : List ℤ → List ℕ
counted zs = spaced (pos (length zs) ∷ zs)

-- an output up to its name
abbrev pub before_name : List ℕ → List ℕ
before_name name = codes "4" ++ (spaced (pos (length name) ∷ []) ++ codes " ")

abbrev pub line_of : Stmt → List ℕ
line_of (rule ρ) = rule_line ρ
line_of (output place name zs) = before_name name ++ (name ++ (counted zs ++ codes "\n"))
line_of (assumption zs) = codes "6" ++ (counted zs ++ codes "\n")
line_of (skipped kind rest) = decimal kind ++ (rest ++ codes "\n")

unfoldable pub lines_of : List Stmt → List ℕ
lines_of [] = []
lines_of (s ∷ ss) = line_of s ++ lines_of ss

abbrev pub program_text : List Stmt → List ℕ
program_text ss = heading ++ (lines_of ss ++ closing)

-- What statements hold together.

unfoldable pub rules_of : List Stmt → List Rule
rules_of [] = []
rules_of (s ∷ ss) = rules_in s ++ rules_of ss

unfoldable pub assumed_of : List Stmt → List ℤ
assumed_of [] = []
assumed_of (s ∷ ss) = assumed_in s ++ assumed_of ss

-- the greatest atom; 0 where there is none
unfoldable pub atoms_of : List Stmt → ℕ
atoms_of [] = 0
atoms_of (s ∷ ss) = max (greatest_in s) (atoms_of ss)

abbrev pub sizes_of : List Stmt → Counts
sizes_of ss = record { atoms = atoms_of ss; rules = length (rules_of ss); integers = length (encode (rules_of ss)); assumed = length (assumed_of ss) }

-- The limits.

-- bytes that may stand between a kind that is passed over and its newline
pub record Passable (rest : List ℕ) : Type 0 where
  pub apart : (b : ℕ) (bs : List ℕ) → rest ≡ b ∷ bs → b ≡ 32
  pub in_line : Each (λ b. b ≢ 10) rest

abbrev pub Fits : Stmt → Type 0
Fits (rule ρ) = LawfulRule 1024 ρ
Fits (output place name zs) = (length name ≤ 255) × (length zs ≤ 255) × Each (Literal 1024) zs
Fits (assumption zs) = Each (Literal 1024) zs
Fits (skipped kind rest) = (passed_over kind ≡ true) × Passable rest

pub record WithinLimits (ss : List Stmt) : Type 0 where
  pub each : Each Fits ss
  pub few_rules : length (rules_of ss) ≤ 2048
  pub few_integers : length (encode (rules_of ss)) ≤ 16384
  pub few_assumed : length (assumed_of ss) ≤ 1024

-- Each output says where its name stands in the text.

abbrev pub Placed : ℕ → Stmt → Type 0
Placed at (rule ρ) = Unit {0}
Placed at (output place name zs) = place ≡ at + length (before_name name)
Placed at (assumption zs) = Unit {0}
Placed at (skipped kind rest) = Unit {0}

-- with the first line at a place of the text
abbrev pub AllPlaced : ℕ → List Stmt → Type 0
AllPlaced at [] = Unit {0}
AllPlaced at (s ∷ ss) = Placed at s × AllPlaced (at + length (line_of s)) ss

-- the text is the program of these statements
pub record Program (text : List ℕ) (ss : List Stmt) : Type 0 where
  pub written : text ≡ program_text ss
  pub short : length text ≤ 65536
  pub limits : WithinLimits ss
  pub placed : AllPlaced (length heading) ss
