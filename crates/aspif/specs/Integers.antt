-- The integers and the line of a rule that may not be there.
use Rattle.std.specs.Prelude.{ℕ, List, [], ◌∷◌, ◌++◌, map, length, ℤ, pos, Some, None, codes, Option}
use Rattle.book.specs.Rules.{Rule, Rules, rule_at}
use Rattle.book.specs.Encoding.{head_type, encode_rule}
use Rattle.aspif.specs.Texts.{spaced}
use Rattle.aspif.specs.declared.rules.RuleOf.{RuleOf}

-- given what a book of its kind means
abbrev pub rule_of : {B : Type 0} → (B → Rules) → RuleOf B → Option Rule
rule_of meaning r = rule_at (meaning r.book.now) r.rule

abbrev pub encode_in : Option Rule → List ℤ
encode_in None = []
encode_in (Some ρ) = encode_rule ρ

-- the head atoms, and the literals of the body
abbrev pub heads_in : Option Rule → List ℤ
heads_in None = []
heads_in (Some ρ) = map pos ρ.head

abbrev pub literals_in : Option Rule → List ℤ
literals_in None = []
literals_in (Some ρ) = ρ.body

-- the two parts: a type, a count, and so many numbers
abbrev pub head_in : Option Rule → List ℤ
head_in None = []
head_in (Some ρ) = head_type ρ.kind ∷ pos (length ρ.head) ∷ map pos ρ.head

abbrev pub body_in : Option Rule → List ℤ
body_in None = []
body_in (Some ρ) = pos 0 ∷ pos (length ρ.body) ∷ ρ.body

abbrev pub line_in : Option Rule → List ℕ
line_in o = codes "1" ++ (spaced (encode_in o) ++ codes "\n")
