use Rattle.std.proofs.Common.{◌≡◌}
use Rattle.reader.specs.Rows.{row_at, row_end}
use Rattle.reader.proofs.cursor.Cursor.row.Given as goal

abbrev pub invariant-loop-more : goal.invariant-loop-more
invariant-loop-more l =
    (row_end (row_at l.items l.more l.self.text.now l.self.at) ≡ row_end (row_at l.items l.count l.fn.self.text.now l.fn.self.at))
    × (l.self.text ≡ l.fn.self.text)
