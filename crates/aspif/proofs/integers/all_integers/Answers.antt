use Rattle.std.proofs.Common.{length, ◌∙◌, arith, rules}
use Rattle.std.specs.List.{range_with_len}
use Rattle.std.proofs.lemmas.Iterator.{YieldsList-from_range, YieldsList-from_map}
use Rattle.std.proofs.lemmas.Iterator.Consumers.{sum_by_from_yields_List, fits_by_from_yields_list}
use Rattle.aspif.proofs.Lines.{size_at, all_sizes, encode_short}
use Rattle.aspif.proofs.integers.all_integers.Goals as goal

pub sum-requires-clause-fits : goal.sum-requires-clause-fits
sum-requires-clause-fits g c =
    let R = g.B.Book.meaning c.args.book.now in
    let kept = g.B.Book.lawful c.args.book.now in
    fits_by_from_yields_list (size_at R.rules) (range_with_len 0 (length R.rules)) c.map.result _
    (YieldsList-from_map _ (size_at R.rules) (YieldsList-from_range 0 (length R.rules) (length R.rules) (search rules) (omega arith)) c.map.ensures.closure (λ x r q k. search rules))
    (omega (arith, all_sizes R.rules, encode_short R.atoms R.rules kept.each, kept.few_rules))

pub returns : goal.returns
returns g c =
    let R = g.B.Book.meaning c.args.book.now in
    sum_by_from_yields_List (size_at R.rules) (range_with_len 0 (length R.rules)) c.map.result _ c.sum.ensures.ran
    (YieldsList-from_map _ (size_at R.rules) (YieldsList-from_range 0 (length R.rules) (length R.rules) (search rules) (omega arith)) c.map.ensures.closure (λ x r q k. search rules))
    ∙ all_sizes R.rules
