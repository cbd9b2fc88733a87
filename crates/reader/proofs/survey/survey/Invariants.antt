use Rattle.std.proofs.Common.{◌≡◌, ◌-◌, true, length}
use Rattle.reader.specs.Scan.{nothing, keeps}
use Rattle.reader.proofs.Turns.{left}
use Rattle.reader.proofs.survey.survey.Given as goal

abbrev pub invariant-loop-statement : goal.invariant-loop-statement
invariant-loop-statement l =
    (left l.counts l.text l.cursor.at ≡ left nothing l.text 10)
    × (keeps l.counts ≡ true)
    × (l.cursor.text.now ≡ l.text)
    × (l.line ≡ l.cursor.at)

abbrev pub decreases-loop-statement : goal.decreases-loop-statement
decreases-loop-statement l = length l.text - l.cursor.at
