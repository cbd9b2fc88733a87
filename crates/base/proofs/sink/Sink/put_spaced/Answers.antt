use Rattle.std.proofs.Common.{codes, refl, rules}
use Rattle.std.specs.Fmt.{signed_decimal}
use Rattle.base.specs.Sinks.{Takes}
use Rattle.base.proofs.Sinks.{takes_then, takes_refused}
use Rattle.base.proofs.sink.Sink.put_spaced.Goals as goal

pub returns-in_err-put : goal.returns-in_err-put
returns-in_err-put g c = takes_refused _ _ g.Self.Sink.laws (codes " ") (signed_decimal c.args.n) _ refl (search rules) (search rules) c.put.ensures

pub returns : goal.returns
returns g c =
    let number : Takes g.Self.Sink.fits g.Self.Sink.after c.put.new.self (signed_decimal c.args.n) c.put_number.result c.put_number.new.self = search rules in
    takes_then _ _ g.Self.Sink.laws (codes " ") (signed_decimal c.args.n) _ refl (search rules) c.put.ensures number
