use Rattle.std.proofs.Common.{refl, rules}
use Rattle.base.specs.Sinks.{Takes}
use Rattle.base.proofs.Sinks.{takes_then, takes_refused}
use Rattle.report.specs.Faults.{refusal_of, layer_of}
use Rattle.report.specs.Told.{opening, number, word, places_of}
use Rattle.report.proofs.telling.FaultPrinted.print.Goals as goal

pub returns-in_err-put : goal.returns-in_err-put
unfolding opening
returns-in_err-put g c = takes_refused _ _ g.S.Sink.laws opening _ _ refl (search rules) (search rules) c.put.ensures

pub returns-in_err-put_numeral : goal.returns-in_err-put_numeral
unfolding opening
returns-in_err-put_numeral g c =
    let R = refusal_of c.args.self.now in
    let told : Takes g.S.Sink.fits g.S.Sink.after c.put.new.self (number R.number) c.put_numeral.result c.put_numeral.new.sink = search rules in
    takes_then _ _ g.S.Sink.laws opening _ _ refl (search rules) c.put.ensures
    (takes_refused _ _ g.S.Sink.laws (number R.number) _ _ refl (search rules) (search rules) told)

pub returns-in_err-print : goal.returns-in_err-print
unfolding opening
returns-in_err-print g c =
    let f = c.args.self.now in
    let R = refusal_of f in
    let told : Takes g.S.Sink.fits g.S.Sink.after c.put.new.self (number R.number) c.put_numeral.result c.put_numeral.new.sink = search rules in
    let layer : Takes g.S.Sink.fits g.S.Sink.after c.put_numeral.new.sink (word (layer_of f)) c.print.result c.print.new.sink = search rules in
    takes_then _ _ g.S.Sink.laws opening _ _ refl (search rules) c.put.ensures
    (takes_then _ _ g.S.Sink.laws (number R.number) _ _ refl (search rules) told
    (takes_refused _ _ g.S.Sink.laws (word (layer_of f)) (places_of R.first R.second) _ refl (search rules) (search rules) layer))

pub returns : goal.returns
unfolding opening
returns g c =
    let f = c.args.self.now in
    let R = refusal_of f in
    let told : Takes g.S.Sink.fits g.S.Sink.after c.put.new.self (number R.number) c.put_numeral.result c.put_numeral.new.sink = search rules in
    let layer : Takes g.S.Sink.fits g.S.Sink.after c.put_numeral.new.sink (word (layer_of f)) c.print.result c.print.new.sink = search rules in
    let places : Takes g.S.Sink.fits g.S.Sink.after c.print.new.sink (places_of R.first R.second) c.put_places.result c.put_places.new.sink = search rules in
    takes_then _ _ g.S.Sink.laws opening _ _ refl (search rules) c.put.ensures
    (takes_then _ _ g.S.Sink.laws (number R.number) _ _ refl (search rules) told
    (takes_then _ _ g.S.Sink.laws (word (layer_of f)) (places_of R.first R.second) _ refl (search rules) layer places))
