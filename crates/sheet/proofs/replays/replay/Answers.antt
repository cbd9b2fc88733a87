use Rattle.std.proofs.Common.{arith, rules}
use Rattle.sheet.specs.View.{view}
use Rattle.sheet.proofs.KnownRuns.{known_runs_are_right}
use Rattle.sheet.proofs.Replaying.{one_made, all_made}
use Rattle.sheet.proofs.replays.replay.Goals as goal

pub returns-in_err-sheet : goal.returns-in_err-sheet
returns-in_err-sheet g c = let known = known_runs_are_right in search rules

pub returns-in_err-answers : goal.returns-in_err-answers
returns-in_err-answers g c = let known = known_runs_are_right in search rules

pub loop-call-preserved : goal.loop-call-preserved
loop-call-preserved g c =
    let l = c.loop-call in (
      one_made (g.B.Book.meaning c.args.book.now) c.args.calls.now l.call-index _ _ _ (view g.B.Book.meaning l.sheet) _ c.perform.result (omega arith) l.invariant.0 c.perform.ensures c.push_reserved.ensures.items,
      omega (arith, l.invariant.1, c.push_reserved.ensures.len),
      omega (arith, l.invariant.2, c.push_reserved.ensures.capacity),
    )

pub returns : goal.returns
returns g c =
    let l = c.loop-call in
    let ended = all_made (g.B.Book.meaning c.args.book.now) (g.B.Book.lawful c.args.book.now) c.args.calls.now l.call-index _ (view g.B.Book.meaning l.sheet) (omega arith) l.invariant.0 in
    record { right = ended.right; same = ended.same; known = known_runs_are_right }
