use Rattle.std.proofs.Common.{◌≡◌, ◌+◌, drop, Some, None, Ok, sym, ◌∙◌, arith, rules}
use Rattle.std.specs.List.{slice_get}
use Rattle.base.specs.Sinks.{Takes, after_space}
use Rattle.base.proofs.Sinks.{takes_none, takes_then, takes_refused}
use Rattle.aspif.specs.Texts.{spaced}
use Rattle.aspif.proofs.Lines.{none_past, spaced_more, spaced_all}
use Rattle.aspif.proofs.rules.put_each.Goals as goal

pub returns-in_err-put_spaced : goal.returns-in_err-put_spaced
returns-in_err-put_spaced g c = λ zs size tells.
    let at = c.loop-at.at in
    let n = c.in-Some.n in
    let here : Some n ≡ slice_get zs at = sym c.in-Some.is ∙ tells at _ c.number.ensures in
    let one : Takes g.S.Sink.fits g.S.Sink.after c.loop-at.sink (after_space n) c.put_spaced.result c.put_spaced.new.self = search rules in
    c.loop-at.invariant zs size tells _ _ (takes_refused _ _ g.S.Sink.laws (after_space n) (spaced (drop (at + 1) zs)) _ (spaced_more zs at n here) (search rules) (search rules) one)

pub loop-at-preserved : goal.loop-at-preserved
loop-at-preserved g c = λ zs size tells r t rest.
    let at = c.loop-at.at in
    let found = tells at _ c.number.ensures in
    c.loop-at.invariant zs size tells r t (elim c.match-number.branch [
      | goal.in-Some+in_ok-put_spaced w ↦
          let n = w.in-Some.n in
          let here : Some n ≡ slice_get zs at = sym w.in-Some.is ∙ found in
          let one : Takes g.S.Sink.fits g.S.Sink.after c.loop-at.sink (after_space n) w.put_spaced.result c.match-number.sink = search rules in
          takes_then _ _ g.S.Sink.laws (after_space n) (spaced (drop (at + 1) zs)) _ (spaced_more zs at n here) (search rules) one rest
      | goal.in_default w ↦
          let none : None ≡ slice_get zs at = search (rules, found) in
          absurd (omega (arith, none_past zs at none, size, c.loop-at-test.true))
    ])

pub returns : goal.returns
returns g c = λ zs size tells.
    c.loop-at.invariant zs size tells (Ok tt) _ (takes_none _ _ g.S.Sink.laws _ _ (spaced_all zs c.loop-at.at (omega (arith, size))))
