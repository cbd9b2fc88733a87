use Rattle.std.proofs.Common.{[], ◌∷◌, w32, ℤ, Ok, ap, rules}
use Rattle.std.proofs.lemmas.Int.{to_z-of_z}
use Rattle.base.specs.PensLawful.{pen_laws}
use Rattle.base.proofs.Sinks.{takes_none, takes_then, takes_refused}
use Rattle.reader.specs.Seen.{numbers_in}
use Rattle.reader.proofs.Penned.{pen_takes}
use Rattle.reader.proofs.puts.put_numbers.Goals as goal

pub returns-in_err-put_all : goal.returns-in_err-put_all
returns-in_err-put_all c =
    let one = pen_takes {X = ℤ} c.loop-value.pen c.put_all.new.self _ _ (ap (◌∷ []) (to_z-of_z w32 c.in-Some.value (search rules))) c.put_all.result c.put_all.ensures.put c.put_all.ensures.same_list in
    c.loop-value.invariant.2 _ _ (takes_refused _ _ pen_laws (c.in-Some.value ∷ []) (numbers_in c.next.new.self.rest) _ c.in-Some.ensures.steps (search rules) (search rules) one)

pub loop-value-preserved : goal.loop-value-preserved
loop-value-preserved c =
    let one = pen_takes {X = ℤ} c.loop-value.pen c.put_all.new.self _ _ (ap (◌∷ []) (to_z-of_z w32 c.in-Some.value (search rules))) c.put_all.result c.put_all.ensures.put c.put_all.ensures.same_list in
    (tt, tt, λ r t h. c.loop-value.invariant.2 r t (takes_then _ _ pen_laws (c.in-Some.value ∷ []) (numbers_in c.next.new.self.rest) _ c.in-Some.ensures.steps (search rules) one h))

pub returns : goal.returns
returns c = c.loop-value.invariant.2 (Ok tt) _ (takes_none _ _ pen_laws _ _ c.in-None.ensures.steps.0)
