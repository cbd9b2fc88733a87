use Rattle.std.proofs.Common.{Result}
use Rattle.base.specs.declared.short.TooShort.{TooShort}
use Rattle.reader.specs.Fill.{Puts}
use Rattle.reader.specs.Seen.{numbers_in}
use Rattle.reader.proofs.puts.put_numbers.Given as goal

-- whatever is taken from here on for the numbers that are left is taken from the first on for all
abbrev pub invariant-loop-value : goal.invariant-loop-value
invariant-loop-value l =
    (goal.iterator-loop-value).can_next l.value-iterator
    × (goal.iterator-loop-value).is_finite l.value-iterator
    × ((r : Result (Unit {0}) TooShort) (t : _) → Puts l.pen (numbers_in l.value-iterator.rest) r t → Puts l.initial.pen (numbers_in l.fn.numbers) r t)
