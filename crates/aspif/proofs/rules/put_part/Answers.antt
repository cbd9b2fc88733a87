use Rattle.std.proofs.Common.{◌∷◌, pos, rules}
use Rattle.base.specs.Sinks.{Takes, after_space}
use Rattle.base.proofs.Sinks.{takes_then, takes_refused}
use Rattle.aspif.specs.Texts.{spaced}
use Rattle.aspif.proofs.Lines.{spaced_cons}
use Rattle.aspif.proofs.rules.put_part.Given as given
use Rattle.aspif.proofs.rules.put_part.Goals as goal
use Rattle.aspif.proofs.rules.put_part.Goals.{After-put_spaced, After-put_spaced-2}

-- the type, and the count
kind_taken : (g : given.Over) (c : goal.After-put_spaced g) → Takes g.S.Sink.fits g.S.Sink.after c.args.sink.now (after_space c.args.kind) c.put_spaced.result c.put_spaced.new.self
kind_taken g c = search rules

count_taken : (g : given.Over) (c : goal.After-put_spaced-2 g) → Takes g.S.Sink.fits g.S.Sink.after c.put_spaced.new.self (after_space (pos c.args.count)) c.put_spaced-2.result c.put_spaced-2.new.self
count_taken g c = search rules

pub returns-in_err-put_spaced : goal.returns-in_err-put_spaced
returns-in_err-put_spaced g c = λ zs size tells.
    takes_refused _ _ g.S.Sink.laws (after_space c.args.kind) (spaced (pos c.args.count ∷ zs)) _ (spaced_cons c.args.kind (pos c.args.count ∷ zs)) (search rules) (search rules) (kind_taken g (goal.at.returns-in_err-put_spaced g c).After-put_spaced)

pub returns-in_err-put_spaced-2 : goal.returns-in_err-put_spaced-2
returns-in_err-put_spaced-2 g c = λ zs size tells.
    let at = (goal.at.returns-in_err-put_spaced-2 g c).After-put_spaced in
    takes_then _ _ g.S.Sink.laws (after_space c.args.kind) (spaced (pos c.args.count ∷ zs)) _ (spaced_cons c.args.kind (pos c.args.count ∷ zs)) (search rules) (kind_taken g at)
    (takes_refused _ _ g.S.Sink.laws (after_space (pos c.args.count)) (spaced zs) _ (spaced_cons (pos c.args.count) zs) (search rules) (search rules) (count_taken g (goal.at.returns-in_err-put_spaced-2 g c).After-put_spaced-2))

pub returns : goal.returns
returns g c = λ zs size tells.
    takes_then _ _ g.S.Sink.laws (after_space c.args.kind) (spaced (pos c.args.count ∷ zs)) _ (spaced_cons c.args.kind (pos c.args.count ∷ zs)) (search rules) (kind_taken g (goal.at.returns g c).After-put_spaced)
    (takes_then _ _ g.S.Sink.laws (after_space (pos c.args.count)) (spaced zs) _ (spaced_cons (pos c.args.count) zs) (search rules) (count_taken g (goal.at.returns g c).After-put_spaced-2) (c.put_each.ensures zs size tells))
