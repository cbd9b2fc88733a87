-- What a book means: how many atoms it has, and its rules.
use Rattle.std.specs.Prelude.{ℕ, ◌≤◌, List, [], length, ℤ, Some, None, Option, unsigned_abs}
use Rattle.std.specs.List.{AllByRecursion as Each, slice_get}
use Rattle.book.specs.declared.kind.Kind.{Kind}
use Rattle.book.specs.declared.kind.Kind.TheVariants.{Plain, Choice}

-- a literal is an atom, or an atom with a minus: not that atom
pub record Rule : Type 0 where
  pub kind : Kind
  pub head : List ℕ
  pub body : List ℤ

-- the atoms are the numbers from 1 on
pub record Rules : Type 0 where
  pub atoms : ℕ
  pub rules : List Rule

abbrev pub no_rules : Rules
no_rules = record { atoms = 0; rules = [] }

-- the rule at a place, counted from 0
abbrev pub rule_at : Rules → ℕ → Option Rule
rule_at R i = slice_get R.rules i

-- of a rule that may not be there: its kind, its two sizes, and what stands at a position
abbrev pub kind_of : Option Rule → Option Kind
kind_of None = None
kind_of (Some ρ) = Some ρ.kind

abbrev pub head_size : Option Rule → Option ℕ
head_size None = None
head_size (Some ρ) = Some (length ρ.head)

abbrev pub body_size : Option Rule → Option ℕ
body_size None = None
body_size (Some ρ) = Some (length ρ.body)

abbrev pub head_atom : Option Rule → ℕ → Option ℕ
head_atom None at = None
head_atom (Some ρ) at = slice_get ρ.head at

abbrev pub body_literal : Option Rule → ℕ → Option ℤ
body_literal None at = None
body_literal (Some ρ) at = slice_get ρ.body at

-- The limits.

abbrev pub Atom : ℕ → ℕ → Type 0
Atom n a = (1 ≤ a) × (a ≤ n)

abbrev pub Literal : ℕ → ℤ → Type 0
Literal n z = Atom n (unsigned_abs z)

abbrev pub head_limit : Kind → ℕ
head_limit Plain = 1
head_limit Choice = 255

pub record LawfulRule (n : ℕ) (ρ : Rule) : Type 0 where
  pub heads : Each (Atom n) ρ.head
  pub literals : Each (Literal n) ρ.body
  pub short_head : length ρ.head ≤ head_limit ρ.kind
  pub short_body : length ρ.body ≤ 255

pub record Lawful (R : Rules) : Type 0 where
  pub few_atoms : R.atoms ≤ 1024
  pub few_rules : length R.rules ≤ 2048
  pub each : Each (LawfulRule R.atoms) R.rules
