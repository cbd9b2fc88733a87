use Rattle.std.proofs.Common.{ℕ, refl, ap, ◌∙◌, arith}
use Rattle.sheet.specs.Marks.{assuming}
use Rattle.sheet.specs.Kept.{flagged, marking}
use Rattle.sheet.proofs.Redone.{carry, turn_in, turn_out}
use Rattle.sheet.proofs.Stored.{again_above, room_above}
use Rattle.sheet.proofs.redo.redo.Goals as goal
use Rattle.sheet.proofs.redo.redo.Goals.{then-allows, else-allows}

pub loop-at-init : goal.loop-at-init
loop-at-init g c =
    let flags = c.args.assumed.now in
    let es = c.args.entries.now in
    let ms = c.args.marks.now in
    let tied = λ (a : ℕ). ap (λ ns. marking ns a) c.mark_again.ensures ∙ again_above flags es c.args.from ms c.requires.sized.0 c.requires.sized.1 c.requires.tied.0 a in
    record { before = omega arith; tied = tied; rest = refl; room = room_above (assuming (flagged flags)) es c.args.from ms _ (omega (arith, c.requires.inside)) c.requires.tied.0 tied c.requires.tied.1 }

pub loop-at-preserved : goal.loop-at-preserved
loop-at-preserved g c =
    let l = c.loop-at in
    elim c.if-allows.branch [
      | then-allows w ↦ carry _ _ _ _ _ _ _ _ _ _ _ w.to-is w.marks-is w.entries-is (turn_in _ _ _ _ l.to l.at l.marks l.entries _ (omega arith) l.invariant _ (g.B.Book.lawful c.args.book.now).few_atoms (omega (arith, c.requires.sized.0)) w.if-allows.ensures w.put_mark.ensures)
      | else-allows w ↦ carry _ _ _ _ _ _ _ _ _ _ _ w.to-is w.marks-is w.entries-is (turn_out _ _ _ _ l.to l.at l.marks l.entries _ (omega arith) l.invariant w.if-allows.ensures)
    ]
