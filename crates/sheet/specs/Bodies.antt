-- What the marks, and what an answer, make of a rule's body.
use Rattle.std.specs.Prelude.{ℕ, suc, Bool, true, false, not, ◌||◌, List, [], length, ℤ, pos, negsuc, Some, None, Option, ◌==◌}
use Rattle.std.specs.List.{list_all, list_any}
use Rattle.base.specs.Search.{least}
use Rattle.book.specs.Rules.{Rule, body_literal}
use Rattle.sheet.specs.Lists.{passes}
use Rattle.sheet.specs.Marks.{Atoms, Marks, says}

-- `pos a` is the literal a, and `negsuc a` the literal -(a + 1)

-- the literal p itself
abbrev pub is_positive : ℕ → ℤ → Bool
is_positive p (pos a) = p == a
is_positive p (negsuc a) = false

-- the literal -p
abbrev pub is_negative : ℕ → ℤ → Bool
is_negative p (pos a) = false
is_negative p (negsuc a) = p == suc a

-- a literal holds if its atom is marked as the literal has it, and fails if it is marked the other way
abbrev pub literal_holds : Marks → ℤ → Bool
literal_holds m (pos a) = says true (m a)
literal_holds m (negsuc a) = says false (m (suc a))

abbrev pub literal_fails : Marks → ℤ → Bool
literal_fails m (pos a) = says false (m a)
literal_fails m (negsuc a) = says true (m (suc a))

-- a body holds if all its literals do, and fails if one does
abbrev pub body_holds : Marks → Rule → Bool
body_holds m ρ = list_all (literal_holds m) ρ.body

abbrev pub body_fails : Marks → Rule → Bool
body_fails m ρ = list_any (literal_fails m) ρ.body

-- the literal is p itself, or it holds
abbrev pub holds_but : ℕ → Marks → ℤ → Bool
holds_but p m z = is_positive p z || literal_holds m z

abbrev pub body_holds_but : ℕ → Marks → Rule → Bool
body_holds_but p m ρ = list_all (holds_but p m) ρ.body

-- the atom stands positive in the body
abbrev pub in_body : ℕ → Rule → Bool
in_body p ρ = list_any (is_positive p) ρ.body

-- the body of a rule that may not be there
abbrev pub body_of : Option Rule → List ℤ
body_of None = []
body_of (Some ρ) = ρ.body

-- the literal at a position does not pass the test
abbrev pub unmet_at : (ℤ → Bool) → Option Rule → ℕ → Bool
unmet_at test found at = passes (λ z. not (test z)) (body_literal found at)

unfoldable pub first_unmet : (ℤ → Bool) → Option Rule → Option ℕ
first_unmet test found = least (unmet_at test found) (length (body_of found))

-- the first position that does not hold, without and with p itself passed over
abbrev pub first_missing : Marks → Option Rule → Option ℕ
first_missing m found = first_unmet (literal_holds m) found

abbrev pub first_missing_but : ℕ → Marks → Option Rule → Option ℕ
first_missing_but p m found = first_unmet (holds_but p m) found

-- true where positive literals are read in M and negative ones in A
abbrev pub literal_true : Atoms → Atoms → ℤ → Bool
literal_true M A (pos a) = M a
literal_true M A (negsuc a) = not (A (suc a))

abbrev pub body_true : Atoms → Atoms → Rule → Bool
body_true M A ρ = list_all (literal_true M A) ρ.body

-- true under the answer A: all its positive atoms are in A, and none of its negative ones is
abbrev pub true_under : Atoms → Rule → Bool
true_under A ρ = body_true A A ρ
