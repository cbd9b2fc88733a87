-- Rules as integers: those of a rule's line in a program text, without the 1 that it begins with.
use Rattle.std.specs.Prelude.{ℕ, ◌+◌, cond, List, [], ◌∷◌, ◌++◌, map, length, ℤ, pos, negsuc, Ok, Err, Result, ◌==◌}
use Rattle.book.specs.Rules.{Rule}
use Rattle.book.specs.declared.kind.Kind.{Kind}
use Rattle.book.specs.declared.kind.Kind.TheVariants.{Plain, Choice}
use Rattle.book.specs.declared.kind.NoSuchKind.{NoSuchKind}

abbrev pub head_type : Kind → ℤ
head_type Plain = pos 0
head_type Choice = pos 1

-- the kind that a number tells, if any does
abbrev pub kind_told : ℤ → Result Kind NoSuchKind
kind_told (pos n) = cond (n == 0) (Ok Plain) (cond (n == 1) (Ok Choice) (Err (record {})))
kind_told (negsuc n) = Err (record {})

-- head type, head count, head atoms, body type 0, body count, literals
abbrev pub encode_rule : Rule → List ℤ
encode_rule ρ = head_type ρ.kind ∷ pos (length ρ.head) ∷ (map pos ρ.head ++ (pos 0 ∷ pos (length ρ.body) ∷ ρ.body))

abbrev pub encode : List Rule → List ℤ
encode [] = []
encode (ρ ∷ ρs) = encode_rule ρ ++ encode ρs

-- where each rule starts, if the first one starts at a given place
abbrev pub starts_from : ℕ → List Rule → List ℕ
starts_from at [] = []
starts_from at (ρ ∷ ρs) = at ∷ starts_from (at + length (encode_rule ρ)) ρs
