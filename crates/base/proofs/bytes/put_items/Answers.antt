use Rattle.std.proofs.Common.{◌+◌, ◌≤◌, length, sym, ◌∙◌, arith, rules}
use Rattle.std.proofs.lemmas.Bool.{cond-false, le-ltb}
use Rattle.base.proofs.Puts.{sets_part}
use Rattle.base.proofs.bytes.put_items.Goals as goal

pub returns-clause-list : goal.returns-clause-list
returns-clause-list g c =
    let out = c.args.out.now in
    let items = c.args.items.now in
    let inside : c.args.at + length items ≤ length out = search rules in
    sets_part _ _ out items _ c.copy_from_slice.ensures.after (omega arith) (omega (arith, inside)) ∙ sym (cond-false _ _ _ (le-ltb (length out) (c.args.at + length items) inside))
