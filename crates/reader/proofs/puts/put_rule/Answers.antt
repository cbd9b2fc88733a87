use Rattle.std.proofs.Common.{[], ◌∷◌, pos, w32, to_z, of_z, refl, ◌∙◌, rules}
use Rattle.std.proofs.lemmas.Int.{to_z-of_z}
use Rattle.base.specs.PensLawful.{pen_laws}
use Rattle.base.proofs.Sinks.{takes_then, takes_refused}
use Rattle.reader.specs.Seen.{numbers_in}
use Rattle.reader.proofs.Tallies.{count_short, rule_pieces}
use Rattle.reader.proofs.puts.put_rule.Goals as goal

pub put_opening-requires : goal.put_opening-requires
put_opening-requires c = count_short c.args.rule.heads

pub put_opening-requires-2 : goal.put_opening-requires-2
put_opening-requires-2 c = count_short c.args.rule.body

pub returns-in_err-put_numbers : goal.returns-in_err-put_numbers
returns-in_err-put_numbers c =
    let r = c.args.rule in
    let t = to_z w32 (of_z w32 c.from.result) in
    let pieces = rule_pieces r t (to_z-of_z w32 c.from.result (search rules) ∙ search rules) in
    takes_then _ _ pen_laws (t ∷ pos r.heads.count ∷ []) _ _ pieces c.in_ok-put_opening.was c.put_opening.ensures
    (takes_refused _ _ pen_laws (numbers_in r.heads) _ _ refl c.in_err-put_numbers.was (search rules) c.put_numbers.ensures)

pub returns-in_err-put_opening-2 : goal.returns-in_err-put_opening-2
returns-in_err-put_opening-2 c =
    let r = c.args.rule in
    let t = to_z w32 (of_z w32 c.from.result) in
    let pieces = rule_pieces r t (to_z-of_z w32 c.from.result (search rules) ∙ search rules) in
    takes_then _ _ pen_laws (t ∷ pos r.heads.count ∷ []) _ _ pieces c.in_ok-put_opening.was c.put_opening.ensures
    (takes_then _ _ pen_laws (numbers_in r.heads) _ _ refl c.in_ok-put_numbers.was c.put_numbers.ensures
    (takes_refused _ _ pen_laws (pos 0 ∷ pos r.body.count ∷ []) _ _ refl c.in_err-put_opening-2.was (search rules) c.put_opening-2.ensures))

pub returns : goal.returns
returns c =
    let r = c.args.rule in
    let t = to_z w32 (of_z w32 c.from.result) in
    let pieces = rule_pieces r t (to_z-of_z w32 c.from.result (search rules) ∙ search rules) in
    takes_then _ _ pen_laws (t ∷ pos r.heads.count ∷ []) _ _ pieces c.in_ok-put_opening.was c.put_opening.ensures
    (takes_then _ _ pen_laws (numbers_in r.heads) _ _ refl c.in_ok-put_numbers.was c.put_numbers.ensures
    (takes_then _ _ pen_laws (pos 0 ∷ pos r.body.count ∷ []) _ _ refl c.in_ok-put_opening-2.was c.put_opening-2.ensures c.put_numbers-2.ensures))
