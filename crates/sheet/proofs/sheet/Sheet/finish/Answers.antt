use Rattle.std.proofs.Common.{◌≡◌, suc, ◌+◌, vec_items, ap, ◌∙◌, add-one, rules}
use Rattle.sheet.specs.Complete.{rounds}
use Rattle.sheet.specs.Kept.{marking}
use Rattle.sheet.specs.Lists.{how_many}
use Rattle.sheet.specs.Marks.{is_unmarked}
use Rattle.sheet.specs.View.{view, changing}
use Rattle.sheet.proofs.Called.{complete_takes}
use Rattle.sheet.proofs.sheet.Sheet.finish.Goals as goal

pub returns : goal.returns
returns g c =
    let v = view g.B.Book.meaning c.args.self.now in
    let t = c.rounds.new.self in
    let most : c.atoms-atoms.result + 1 ≡ suc v.rules.atoms = add-one _ ∙ ap suc c.atoms-atoms.ensures in
    let done = c.rounds.ensures ∙ ap (λ n. changing (λ R s. rounds R n s) v) most in
    complete_takes v.rules v.state (search rules) (view g.B.Book.meaning t) (vec_items t.marks) c.count_unmarked.result done t.tied
    (c.count_unmarked.ensures ∙ ap (λ ms. how_many (λ a. is_unmarked (marking ms a)) c.atoms-atoms.result) c.deref.ensures.value ∙ ap (how_many (λ a. is_unmarked (marking (vec_items t.marks) a))) c.atoms-atoms.ensures)
