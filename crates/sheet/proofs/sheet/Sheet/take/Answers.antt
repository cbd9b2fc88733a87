use Rattle.std.proofs.Common.{◌≡◌, set, Ok, vec_items, ap, ◌∙◌, arith, rules}
use Rattle.std.proofs.lemmas.List.{with_items_is}
use Rattle.sheet.specs.Marks.{claim, mark_for, assuming}
use Rattle.sheet.specs.States.{marks}
use Rattle.sheet.specs.Verdicts.{verdict}
use Rattle.sheet.specs.Kept.{flagged, marking, unmarked_in}
use Rattle.sheet.specs.View.{view}
use Rattle.sheet.proofs.Called.{Placed, placed}
use Rattle.sheet.proofs.Stored.{push_tied}
use Rattle.sheet.proofs.sheet.Sheet.take.Given as given
use Rattle.sheet.proofs.sheet.Sheet.take.Goals as goal
use Rattle.sheet.proofs.sheet.Sheet.take.Goals.{After-put_mark}

-- what the judge has said
allowed : (g : given.Over) (c : goal.After-put_mark g) → let v = view g.B.Book.meaning c.args.self.now in Ok tt ≡ verdict v.rules v.state.answer (marks v.state) c.args.proposal
allowed g c = search rules

fits : (g : given.Over) (c : goal.After-put_mark g) → Placed (vec_items c.args.self.now.marks) c.args.proposal
fits g c =
    let s = c.args.self.now in
    let v = view g.B.Book.meaning s in
    placed v.rules v.state.answer (marks v.state) (vec_items s.marks) c.args.proposal (g.B.Book.lawful s.book.now).few_atoms (omega (arith, s.sized, s.marks.ok)) s.tied (allowed g c)

pub push_reserved-requires : goal.push_reserved-requires
push_reserved-requires g c =
    let s = c.args.self.now in
    omega (arith, s.room, s.reserved, (fits g (goal.at.push_reserved-requires g c).After-put_mark).less)

pub invariant_of-self : goal.invariant_of-self
invariant_of-self g c =
    let s = c.args.self.now in
    let P = c.args.proposal in
    let f = fits g (goal.at.invariant_of-self g c).After-put_mark in
    let put = with_items_is s.marks c.put_mark.new.marks (omega (arith, c.put_mark.auto, c.deref_mut.ensures.len)) ∙ c.put_mark.ensures ∙ ap (λ ms. set ms P.atom (mark_for (claim P.reason))) c.deref_mut.ensures.value in
    record {
      tied = λ a. ap (λ ms. marking ms a) put ∙ push_tied (vec_items s.marks) P f.within (assuming (flagged (vec_items s.assumed))) (vec_items s.entries) _ s.tied c.push_reserved.ensures.items a;
      answers = s.answers;
      assumes = s.assumes;
      sized = s.sized;
      room = omega (arith, s.room, f.less, ap unmarked_in put, c.push_reserved.ensures.len);
      reserved = omega (arith, s.reserved, c.push_reserved.ensures.capacity);
      unanswered = s.unanswered;
      unassuming = s.unassuming;
    }
