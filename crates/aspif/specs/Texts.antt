-- Program texts: a heading, a line for each statement, and a closing line.
use Rattle.std.specs.Prelude.{ℕ, List, [], ◌∷◌, ◌++◌, ℤ, codes}
use Rattle.std.specs.Fmt.{signed_decimal}
use Rattle.book.specs.Rules.{Rule, Rules}
use Rattle.book.specs.Encoding.{encode_rule}

unfoldable pub heading : List ℕ
heading = codes "asp 1 0 0\n"

unfoldable pub closing : List ℕ
closing = codes "0\n"

-- each number in decimal, after a space
unfoldable pub spaced : List ℤ → List ℕ
spaced [] = []
spaced (z ∷ zs) = codes " " ++ (signed_decimal z ++ spaced zs)

-- a rule: the number 1, and then the rule's integers
abbrev pub rule_line : Rule → List ℕ
rule_line ρ = codes "1" ++ (spaced (encode_rule ρ) ++ codes "\n")

unfoldable pub rule_lines : List Rule → List ℕ
rule_lines [] = []
rule_lines (ρ ∷ ρs) = rule_line ρ ++ rule_lines ρs

-- the text of a book
abbrev pub text_of : Rules → List ℕ
text_of R = heading ++ (rule_lines R.rules ++ closing)
