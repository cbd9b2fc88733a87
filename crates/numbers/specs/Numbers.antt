-- Lists of numbers as a book: which rules they spell out, what is wrong with them, and which book they make.
use Rattle.std.specs.Prelude.{ℕ, zero, suc, ◌+◌, Bool, false, cond, not, ◌&&◌, List, map, length, take, drop, ℤ, pos, negsuc, is_some, is_ok, Some, None, Ok, Err, Option, Result, ◌==◌, nat_le, nat_lt, slice_index, slice_index_or, unsigned_abs}
use Rattle.std.specs.List.{list_all}
use Rattle.base.specs.Search.{least}
use Rattle.book.specs.Rules.{Rule, Rules, no_rules, head_limit}
use Rattle.book.specs.declared.kind.Kind.{Kind}
use Rattle.book.specs.declared.kind.Kind.TheVariants.{Plain, Choice}
use Rattle.book.specs.declared.error.BookError.{BookError}
use Rattle.book.specs.declared.error.BookError.TheVariants.{TooManyAtoms, FaultyRule, FaultyRest}
use Rattle.numbers.specs.declared.lists.Names.{Names}
use Rattle.numbers.specs.declared.lists.RuleLists.{RuleLists}

-- The rule that the integers from a start on spell out. Past the last integer there are zeros.

abbrev pub integer_at : List ℤ → ℕ → ℤ
integer_at xs at = slice_index_or xs at (pos 0)

-- an integer as a count; below 0 it counts nothing
abbrev pub count : ℤ → ℕ
count (pos n) = n
count (negsuc n) = 0

abbrev pub kind_from : ℤ → Kind
kind_from (pos zero) = Plain
kind_from (pos (suc n)) = Choice
kind_from (negsuc n) = Choice

-- a part of a rule, at the place of its type: a type, a count, and so many integers

abbrev pub part_count : List ℤ → ℕ → ℕ
part_count xs at = count (integer_at xs (at + 1))

abbrev pub part_at : List ℤ → ℕ → List ℤ
part_at xs at = take (part_count xs at) (drop (at + 2) xs)

abbrev pub part_end : List ℤ → ℕ → ℕ
part_end xs at = at + 2 + part_count xs at

abbrev pub head_count : List ℤ → ℕ → ℕ
head_count xs s = part_count xs s

abbrev pub head_part : List ℤ → ℕ → List ℤ
head_part xs s = part_at xs s

-- where the body type stands
abbrev pub body_start : List ℤ → ℕ → ℕ
body_start xs s = part_end xs s

abbrev pub body_count : List ℤ → ℕ → ℕ
body_count xs s = part_count xs (body_start xs s)

abbrev pub body_part : List ℤ → ℕ → List ℤ
body_part xs s = part_at xs (body_start xs s)

-- where the next rule starts
abbrev pub rule_end : List ℤ → ℕ → ℕ
rule_end xs s = part_end xs (body_start xs s)

abbrev pub rule_from : List ℤ → ℕ → Rule
rule_from xs s = record { kind = kind_from (integer_at xs s); head = map unsigned_abs (head_part xs s); body = body_part xs s }

-- What is wrong with the lists.

-- an integer from low to high
abbrev pub within : ℕ → ℕ → ℤ → Bool
within low high (pos n) = nat_le low n && nat_le n high
within low high (negsuc n) = false

-- an atom of n, or one with a minus
abbrev pub is_literal : ℕ → ℤ → Bool
is_literal n z = nat_le 1 (unsigned_abs z) && nat_le (unsigned_abs z) n

-- both types and both counts are among those that there are
abbrev pub sound_counts : List ℤ → ℕ → Bool
sound_counts xs s =
    (within 0 1 (integer_at xs s) && within 0 (head_limit (kind_from (integer_at xs s))) (integer_at xs (s + 1)))
    && (within 0 0 (integer_at xs (body_start xs s)) && within 0 255 (integer_at xs (body_start xs s + 1)))

-- the integers from a start on are those of a rule over n atoms
abbrev pub sound_rule : ℕ → List ℤ → ℕ → Bool
sound_rule n xs s =
    (sound_counts xs s && nat_le (rule_end xs s) (length xs))
    && (list_all (within 1 n) (head_part xs s) && list_all (is_literal n) (body_part xs s))

-- where the rule at a place has to start: where the one before it ends
abbrev pub due_start : List ℤ → List ℕ → ℕ → ℕ
due_start xs ss zero = 0
due_start xs ss (suc i) = rule_end xs (slice_index ss i)

abbrev pub sound_at : RuleLists → ℕ → Bool
sound_at L i =
    (nat_lt i 2048 && slice_index L.starts.now i == due_start L.integers.now L.starts.now i)
    && sound_rule L.atoms L.integers.now (slice_index L.starts.now i)

-- a name that is not absent reaches past the end of the text
abbrev pub reaches_past : ℕ → ℕ → ℕ → Bool
reaches_past size start len = nat_lt 0 len && nat_lt size (start + len)

abbrev pub outside : Names → ℕ → Bool
outside N i = reaches_past (length N.text.now) (slice_index N.starts.now i) (slice_index N.lengths.now i)

abbrev pub names_fit : ℕ → Names → Bool
names_fit n N = (length N.starts.now == n && length N.lengths.now == n) && not (is_some (least (outside N) n))

-- no integer is left over, and the names fit
abbrev pub rest_fits : RuleLists → Bool
rest_fits L = due_start L.integers.now L.starts.now (length L.starts.now) == length L.integers.now && names_fit L.atoms L.names

-- after a look for the first faulty rule: that rule, or else what is wrong with the rest
abbrev pub after_rules : Option ℕ → RuleLists → Result (Unit {0}) BookError
after_rules (Some i) L = Err (FaultyRule i)
after_rules None L = cond (rest_fits L) (Ok tt) (Err (FaultyRest (length L.starts.now)))

abbrev pub first_faulty : RuleLists → Option ℕ
first_faulty L = least (λ i. not (sound_at L i)) (length L.starts.now)

abbrev pub numbers_verdict : RuleLists → Result (Unit {0}) BookError
numbers_verdict L = cond (nat_lt 1024 L.atoms) (Err TooManyAtoms) (after_rules (first_faulty L) L)

-- The book that the lists make.

abbrev pub spelled : RuleLists → Rules
spelled L = record { atoms = L.atoms; rules = map (rule_from L.integers.now) L.starts.now }

abbrev pub numbers_book : RuleLists → Rules
numbers_book L = cond (is_ok (numbers_verdict L)) (spelled L) no_rules

-- the name of an atom, from 1 on
abbrev pub name_in : Names → ℕ → Option (List ℕ)
name_in N zero = None
name_in N (suc i) = cond (nat_lt 0 (slice_index N.lengths.now i)) (Some (take (slice_index N.lengths.now i) (drop (slice_index N.starts.now i) N.text.now))) None

abbrev pub numbers_name : RuleLists → ℕ → Option (List ℕ)
numbers_name L a = cond (is_ok (numbers_verdict L)) (name_in L.names a) None
