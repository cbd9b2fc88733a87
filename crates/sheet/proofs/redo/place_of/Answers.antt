use Rattle.std.proofs.Common.{◌≡◌, true, false, rules, tests}
use Rattle.std.proofs.lemmas.Iterator.{IsFirst-from_position, YieldsList-from_slice}
use Rattle.sheet.specs.Strike.{is_of, place_of}
use Rattle.sheet.proofs.Searches.{least_from_position}
use Rattle.sheet.proofs.redo.place_of.Goals as goal

pub returns : goal.returns
unfolding place_of
returns c =
    let of = is_of c.args.atom in
    least_from_position of c.args.entries.now c.position.result
    (IsFirst-from_position _ _ c.position.result (λ e. of e ≡ true) (λ e. of e ≡ false) c.position.ensures.ran (YieldsList-from_slice c.args.entries.now cc) (λ e q k. search (rules, tests)) (λ e q k. search (rules, tests)))
