use Rattle.std.proofs.Common.{sym, refl, ap, ◌∙◌, subst, rules}
use Rattle.base.specs.Pens.{page, has_room, filled}
use Rattle.reader.specs.Statements.{assumed_in}
use Rattle.reader.specs.Fill.{parts_in}
use Rattle.reader.specs.Seen.{numbers_in, meant, statements_left}
use Rattle.reader.proofs.Cases.{none_assumed}
use Rattle.reader.proofs.Filling.{filled_none, part_none, part_first, part_rest, part_then}
use Rattle.reader.proofs.Penned.{pen_filled}
use Rattle.reader.proofs.Wholes.{never}
use Rattle.reader.proofs.fills.fill_assumed.Goals as goal

pub loop-statement-preserved-in-Continue-1 : goal.loop-statement-preserved-in-Continue-1
loop-statement-preserved-in-Continue-1 c =
    let p = c.loop-statement.pen in
    let q = c.put_numbers.new.pen in
    let s = meant c.in-Some.statement in
    let ss = statements_left c.next.new.self in
    let all = c.in-Some.ensures.steps in
    let room = ap (λ qs. has_room (page p) (parts_in assumed_in qs)) (sym all) ∙ c.loop-statement.invariant.2 in
    let is = ap (λ t. assumed_in (meant t)) c.in-Assumption.is in
    let fits = ap (has_room (page p)) (sym is) ∙ part_first assumed_in p s ss room in
    let one = subst (λ xs. filled p xs q) (sym is) (pen_filled p q (numbers_in c.in-Assumption.literals) c.put_numbers.result fits c.put_numbers.ensures).1 in
    (tt, tt, part_rest assumed_in p s ss q room one, λ t h. c.loop-statement.invariant.3 t (subst (λ qs. filled p (parts_in assumed_in qs) t) (sym all) (part_then assumed_in p s ss q t one h)))

pub returns-in_err-put_numbers : goal.returns-in_err-put_numbers
returns-in_err-put_numbers c =
    let p = c.loop-statement.pen in
    let s = meant c.in-Some.statement in
    let ss = statements_left c.next.new.self in
    let room = ap (λ qs. has_room (page p) (parts_in assumed_in qs)) (sym c.in-Some.ensures.steps) ∙ c.loop-statement.invariant.2 in
    let fits = ap (λ t. has_room (page p) (assumed_in (meant t))) (sym c.in-Assumption.is) ∙ part_first assumed_in p s ss room in
    never (sym c.in_err-put_numbers.was ∙ (pen_filled p c.put_numbers.new.pen (numbers_in c.in-Assumption.literals) c.put_numbers.result fits c.put_numbers.ensures).0)

pub loop-statement-preserved : goal.loop-statement-preserved
loop-statement-preserved c =
    let p = c.loop-statement.pen in
    let s = meant c.in-Some.statement in
    let ss = statements_left c.next.new.self in
    let all = c.in-Some.ensures.steps in
    let room = ap (λ qs. has_room (page p) (parts_in assumed_in qs)) (sym all) ∙ c.loop-statement.invariant.2 in
    let one = filled_none p (assumed_in s) (none_assumed c.in-Some.statement c.in_default.not-Assumption) in
    (tt, tt, part_rest assumed_in p s ss p room one, λ t h. c.loop-statement.invariant.3 t (subst (λ qs. filled p (parts_in assumed_in qs) t) (sym all) (part_then assumed_in p s ss p t one h)))

pub returns : goal.returns
returns c =
    let p = c.loop-statement.pen in
    let end = c.loop-statement.invariant.3 p (subst (λ qs. filled p (parts_in assumed_in qs) p) (sym c.in-None.ensures.steps.0) (part_none assumed_in p)) in
    let list = end.0 in
    let same = end.1 in
    record { done = refl; list = search rules }
