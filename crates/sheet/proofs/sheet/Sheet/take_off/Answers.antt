use Rattle.std.proofs.Common.{◌≡◌, length, Some, sym, ap, arith, rules}
use Rattle.sheet.specs.Strike.{entry_at, place_of}
use Rattle.sheet.proofs.Searches.{least_passes}
use Rattle.sheet.proofs.sheet.Sheet.take_off.Goals as goal

pub redo-kept-requires-clause-inside : goal.redo-kept-requires-clause-inside
unfolding place_of
redo-kept-requires-clause-inside g c =
    let es = c.deref.result.now in
    let place : Some c.in_ok-at.at ≡ place_of es c.args.atom = search rules in
    omega (arith, (least_passes (entry_at es c.args.atom) (length es) c.in_ok-at.at (sym place)).0, ap length c.deref.ensures.value, ap length c.deref_mut-2.ensures.value)
