use Rattle.std.proofs.Common.{◌≡◌, true}
use lib.Seq.{sets}
use Rattle.base.specs.Pens.{page, has_room, filled}
use Rattle.reader.specs.Statements.{assumed_in}
use Rattle.reader.specs.Fill.{parts_in}
use Rattle.reader.specs.Seen.{statements_left}
use Rattle.reader.proofs.fills.fill_assumed.Given as goal

-- once what is left is put, all of it is, into the same list
abbrev pub invariant-loop-statement : goal.invariant-loop-statement
invariant-loop-statement l =
    let left = parts_in assumed_in (statements_left l.statement-iterator) in
    (goal.iterator-loop-statement).can_next l.statement-iterator
    × (goal.iterator-loop-statement).is_finite l.statement-iterator
    × (has_room (page l.pen) left ≡ true)
    × ((t : _) → filled l.pen left t → (t.out.now ≡ sets l.fn.out 0 (parts_in assumed_in (statements_left l.statements))) × (t.out.ghost_name ≡ l.initial.pen.out.ghost_name))
