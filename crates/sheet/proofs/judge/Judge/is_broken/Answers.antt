use Rattle.std.proofs.Common.{◌≡◌, is_none, rules, ap, ◌∙◌}
use Rattle.sheet.specs.Bodies.{literal_true}
use Rattle.sheet.specs.Judges.{answer_of, some_head}
use Rattle.sheet.proofs.Looking.{plain_broken}
use Rattle.sheet.proofs.judge.Judge.is_broken.Goals as goal

pub returns-then-not-has_true_head : goal.returns-then-not-has_true_head
unfolding some_head
returns-then-not-has_true_head g c =
    let A = answer_of c.args.self.now in
    let unmet = c.first_unmet.ensures (literal_true A A) (λ z b f k. search rules) in
    let none : c.is_none.result ≡ is_none c.first_unmet.result = search rules in
    none ∙ ap is_none unmet ∙ plain_broken A _ (search rules) (search rules)
