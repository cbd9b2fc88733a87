use Rattle.std.proofs.Common.{◌≡◌}
use lib.Seq.{sets}
use Rattle.reader.specs.Fill.{integers_in, parts_in, starts_in}
use Rattle.reader.specs.Seen.{statements_left}
use Rattle.reader.proofs.Filling.{RoomForRules, RulesPut}
use Rattle.reader.proofs.fills.fill_rules.Given as goal

-- once the rules that are left are put, all of them are, into the same lists
abbrev pub invariant-loop-statement : goal.invariant-loop-statement
invariant-loop-statement l =
    let all = statements_left l.statements in
    (goal.iterator-loop-statement).can_next l.statement-iterator
    × (goal.iterator-loop-statement).is_finite l.statement-iterator
    × RoomForRules l.integers l.starts (statements_left l.statement-iterator)
    × (
    (t : _) (u : _) → RulesPut l.integers l.starts (statements_left l.statement-iterator) t u
    → (t.out.now ≡ sets l.fn.integers 0 (parts_in integers_in all)) × (t.out.ghost_name ≡ l.initial.integers.out.ghost_name) × (u.out.now ≡ sets l.fn.starts 0 (starts_in 0 all)) × (u.out.ghost_name ≡ l.initial.starts.out.ghost_name)
    )
