use Rattle.std.proofs.Common.{◌≡◌, ◌∷◌, [], sym, refl, ap, ◌∙◌, subst, rules}
use Rattle.std.proofs.lemmas.List.{append-nil}
use Rattle.base.specs.Pens.{page, has_room, filled}
use Rattle.book.specs.Encoding.{encode_rule, encode, starts_from}
use Rattle.reader.specs.Statements.{rules_in}
use Rattle.reader.specs.Fill.{integers_in}
use Rattle.reader.specs.Seen.{rule_meant, meant, statements_left}
use Rattle.reader.proofs.Cases.{no_rule}
use Rattle.reader.proofs.Filling.{BothPut, RoomForRules, RulesPut, filled_none, rules_none, rules_first, rules_rest, rules_then}
use Rattle.reader.proofs.Penned.{pen_takes, pen_filled}
use Rattle.reader.proofs.Wholes.{never}
use Rattle.reader.proofs.fills.fill_rules.Goals as goal

pub returns-in_err-put_all : goal.returns-in_err-put_all
returns-in_err-put_all c =
    let p = c.loop-statement.integers in
    let q = c.loop-statement.starts in
    let s = meant c.in-Some.statement in
    let room = rules_first p q s (statements_left c.next.new.self) (subst (RoomForRules p q) c.in-Some.ensures.steps c.loop-statement.invariant.2) in
    let fits = ap (λ t. has_room (page q) (starts_from p.at (rules_in (meant t)))) (sym c.in-Rule.is) ∙ room.starts in
    never (sym c.in_err-put_all.was ∙ (pen_filled q c.put_all.new.self (p.at ∷ []) c.put_all.result fits (pen_takes q c.put_all.new.self (p.at ∷ []) _ refl c.put_all.result c.put_all.ensures.put c.put_all.ensures.same_list)).0)

pub loop-statement-preserved-in-Continue-branch-2 : goal.loop-statement-preserved-in-Continue-branch-2
loop-statement-preserved-in-Continue-branch-2 c =
    let p = c.loop-statement.integers in
    let q = c.loop-statement.starts in
    let t = c.put_rule.new.pen in
    let u = c.put_all.new.self in
    let s = meant c.in-Some.statement in
    let ss = statements_left c.next.new.self in
    let all = c.in-Some.ensures.steps in
    let space = subst (RoomForRules p q) all c.loop-statement.invariant.2 in
    let room = rules_first p q s ss space in
    let is = ap (λ r. rules_in (meant r)) c.in-Rule.is in
    let begins = ap (starts_from p.at) is in
    let zs = encode_rule (rule_meant c.in-Rule.rule) in
    let whole : integers_in s ≡ zs = ap encode is ∙ append-nil zs in
    let start = pen_takes q u (p.at ∷ []) _ refl c.put_all.result c.put_all.ensures.put c.put_all.ensures.same_list in
    let one : BothPut p q (integers_in s) (starts_from p.at (rules_in s)) t u = record {
      integers = subst (λ xs. filled p xs t) (sym whole) (pen_filled p t zs c.put_rule.result (ap (has_room (page p)) (sym whole) ∙ room.integers) c.put_rule.ensures).1;
      starts = subst (λ xs. filled q xs u) (sym begins) (pen_filled q u (p.at ∷ []) c.put_all.result (ap (has_room (page q)) (sym begins) ∙ room.starts) start).1;
    } in
    (tt, tt, rules_rest p q s ss t u one space, λ v w h. c.loop-statement.invariant.3 v w (subst (λ qs. RulesPut p q qs v w) (sym all) (rules_then p q s ss t u one v w h)))

pub returns-in_err-put_rule : goal.returns-in_err-put_rule
returns-in_err-put_rule c =
    let p = c.loop-statement.integers in
    let q = c.loop-statement.starts in
    let room = rules_first p q (meant c.in-Some.statement) (statements_left c.next.new.self) (subst (RoomForRules p q) c.in-Some.ensures.steps c.loop-statement.invariant.2) in
    let zs = encode_rule (rule_meant c.in-Rule.rule) in
    let whole = ap (λ r. encode (rules_in (meant r))) c.in-Rule.is ∙ append-nil zs in
    never (sym c.in_err-put_rule.was ∙ (pen_filled p c.put_rule.new.pen zs c.put_rule.result (ap (has_room (page p)) (sym whole) ∙ room.integers) c.put_rule.ensures).0)

pub loop-statement-preserved : goal.loop-statement-preserved
loop-statement-preserved c =
    let p = c.loop-statement.integers in
    let q = c.loop-statement.starts in
    let s = meant c.in-Some.statement in
    let ss = statements_left c.next.new.self in
    let all = c.in-Some.ensures.steps in
    let none = no_rule c.in-Some.statement c.in_default.not-Rule in
    let one : BothPut p q (integers_in s) (starts_from p.at (rules_in s)) p q = record { integers = filled_none p (integers_in s) (ap encode none); starts = filled_none q (starts_from p.at (rules_in s)) (ap (starts_from p.at) none) } in
    (tt, tt, rules_rest p q s ss p q one (subst (RoomForRules p q) all c.loop-statement.invariant.2), λ t u h. c.loop-statement.invariant.3 t u (subst (λ qs. RulesPut p q qs t u) (sym all) (rules_then p q s ss p q one t u h)))

pub returns : goal.returns
returns c =
    let p = c.loop-statement.integers in
    let q = c.loop-statement.starts in
    let end = c.loop-statement.invariant.3 p q (subst (λ qs. RulesPut p q qs p q) (sym c.in-None.ensures.steps.0) (rules_none p q)) in
    let all_integers = end.0 in
    let same_integers = end.1 in
    let all_starts = end.2 in
    let same_starts = end.3 in
    record { done = refl; integers = search rules; starts = search rules }
