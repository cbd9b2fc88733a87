-- Two books joined: the rules of the first and then those of the second.
use Rattle.std.specs.Prelude.{ℕ, ◌+◌, max, Bool, cond, List, ◌++◌, length, None, Some, Option, nat_le}
use Rattle.std.specs.Option.{option_or}
use Rattle.book.specs.Rules.{Rule, Rules, no_rules, rule_at}
use Rattle.book.specs.declared.place.Place.{Place}
use Rattle.book.specs.declared.place.Place.TheVariants.{First, Second}

-- the rules of both are not too many
abbrev pub fit_together : Rules → Rules → Bool
fit_together R S = nat_le (length R.rules + length S.rules) 2048

abbrev pub both : Rules → Rules → Rules
both R S = record { atoms = max R.atoms S.atoms; rules = R.rules ++ S.rules }

abbrev pub joined : Rules → Rules → Rules
joined R S = cond (fit_together R S) (both R S) no_rules

-- the first book's name of an atom, or else the second's
abbrev pub joined_name : Rules → Rules → Option (List ℕ) → Option (List ℕ) → Option (List ℕ)
joined_name R S first second = cond (fit_together R S) (option_or first second) None

-- the rule that a place in one of the two books stands for, if there is one
abbrev pub rule_in : Rules → Rules → Place → Option Rule
rule_in R S (First i) = rule_at R i
rule_in R S (Second i) = rule_at S i

abbrev pub rule_found : Rules → Rules → Option Place → Option Rule
rule_found R S None = None
rule_found R S (Some place) = rule_in R S place
