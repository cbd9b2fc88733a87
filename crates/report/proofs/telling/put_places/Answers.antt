use Rattle.std.proofs.Common.{refl, rules}
use Rattle.base.proofs.Sinks.{takes_then, takes_refused}
use Rattle.report.specs.Told.{number, newline, places_of}
use Rattle.report.proofs.telling.put_places.Goals as goal

pub returns-in_err-put_numeral : goal.returns-in_err-put_numeral
unfolding places_of
returns-in_err-put_numeral g c = takes_refused _ _ g.S.Sink.laws (number c.args.first) _ _ refl (search rules) (search rules) c.put_numeral.ensures

pub returns-in_err-put_numeral-2 : goal.returns-in_err-put_numeral-2
unfolding places_of
returns-in_err-put_numeral-2 g c =
    takes_then _ _ g.S.Sink.laws (number c.args.first) _ _ refl (search rules) c.put_numeral.ensures
    (takes_refused _ _ g.S.Sink.laws (number c.args.second) newline _ refl (search rules) (search rules) c.put_numeral-2.ensures)

pub returns : goal.returns
unfolding places_of newline
returns g c =
    takes_then _ _ g.S.Sink.laws (number c.args.first) _ _ refl (search rules) c.put_numeral.ensures
    (takes_then _ _ g.S.Sink.laws (number c.args.second) newline _ refl (search rules) c.put_numeral-2.ensures c.put.ensures)
