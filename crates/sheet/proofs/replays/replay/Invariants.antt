use Rattle.std.proofs.Common.{◌≡◌, ◌≤◌, length, vec_items, vec_len, vec_capacity}
use Rattle.sheet.specs.View.{view}
use Rattle.sheet.proofs.Replaying.{Made}
use Rattle.sheet.proofs.replays.replay.Given as goal

abbrev pub invariant-loop-call : goal.invariant-loop-call
invariant-loop-call g l = Made (g.B.Book.meaning l.book) l.calls l.call-index (vec_items l.answers) (view g.B.Book.meaning l.sheet) × (vec_len l.answers ≡ l.call-index) × (length l.calls ≤ vec_capacity l.answers)
