use Rattle.std.proofs.Common.{◌≡◌, ℕ, false, map, vec_items, sym, ap, ◌∙◌, arith, rules}
use mathlib.Core.Path.{fun_ext}
use Rattle.std.specs.Vec.{with_items}
use Rattle.std.proofs.lemmas.List.{with_items_is}
use Rattle.std.proofs.lemmas.Bool.{true≢false}
use Rattle.sheet.specs.Marks.{marked_all, assuming}
use Rattle.sheet.specs.Open.{positives, negatives, first_broken}
use Rattle.sheet.specs.Kept.{flagged, marking, with_positives, with_negatives, mark_assumed}
use Rattle.sheet.specs.View.{view}
use Rattle.sheet.proofs.Called.{open_takes, open_violates}
use Rattle.sheet.proofs.Flagging.{answer_put, assumed_put, assumed_marking}
use Rattle.sheet.proofs.Stored.{no_flag, unmarked_most}
use Rattle.sheet.proofs.sheet.Sheet.begin.Given as given
use Rattle.sheet.proofs.sheet.Sheet.begin.Goals as goal
use Rattle.sheet.proofs.sheet.Sheet.begin.Goals.{After-put_literals, After-fill-in-Some-first_broken}

-- the flags once the literals are put
put_answer_lem : (g : given.Over) (c : goal.After-put_literals g) → flagged (vec_items (with_items c.args.self.now.answer c.put_literals.new.answer)) ≡ positives c.args.literals.now
put_answer_lem g c =
    let s = c.args.self.now in
    let zs = c.args.literals.now in
    ap flagged (with_items_is s.answer c.put_literals.new.answer (omega (arith, c.put_literals.auto.answer, c.deref_mut.ensures.len)) ∙ c.put_literals.ensures.answer ∙ ap (λ flags. with_positives flags zs) c.deref_mut.ensures.value)
    ∙ answer_put (g.B.Book.meaning s.book.now) zs (g.B.Book.lawful s.book.now).few_atoms (sym c.in_default.ensures) (vec_items s.answer) (omega (arith, s.answers, s.answer.ok)) (λ a. s.unanswered a c.if-self.false)

put_assumed : (g : given.Over) (c : goal.After-put_literals g) → flagged (vec_items (with_items c.args.self.now.assumed c.put_literals.new.assumed)) ≡ negatives c.args.literals.now
put_assumed g c =
    let s = c.args.self.now in
    let zs = c.args.literals.now in
    ap flagged (with_items_is s.assumed c.put_literals.new.assumed (omega (arith, c.put_literals.auto.assumed, c.deref_mut-2.ensures.len)) ∙ c.put_literals.ensures.assumed ∙ ap (λ flags. with_negatives flags zs) c.deref_mut-2.ensures.value)
    ∙ assumed_put (g.B.Book.meaning s.book.now) zs (g.B.Book.lawful s.book.now).few_atoms (sym c.in_default.ensures) (vec_items s.assumed) (omega (arith, s.assumes, s.assumed.ok)) (λ a. s.unassuming a c.if-self.false)

-- the flags once they are cleared again
cleared_answer : (g : given.Over) (c : goal.After-fill-in-Some-first_broken g) (a : ℕ) → flagged (vec_items c.fill.new.self) a ≡ false
cleared_answer g c a = ap (λ flags. flagged flags a) (c.fill.ensures.items (λ y e. e)) ∙ no_flag _ a

cleared_assumed : (g : given.Over) (c : goal.After-fill-in-Some-first_broken g) (a : ℕ) → flagged (vec_items c.fill-in-Some-first_broken.new.self) a ≡ false
cleared_assumed g c a = ap (λ flags. flagged flags a) (c.fill-in-Some-first_broken.ensures.items (λ y e. e)) ∙ no_flag _ a

pub invariant_of-self : goal.invariant_of-self
invariant_of-self g c =
    let s = c.args.self.now in
    let same = fun_ext (λ a. s.unassuming a c.if-self.false ∙ sym (cleared_assumed g c a)) in
    record {
      tied = λ a. s.tied a ∙ ap (λ X. marked_all (assuming X) (vec_items s.entries) a) same;
      answers = search rules;
      assumes = search rules;
      sized = s.sized;
      room = s.room;
      reserved = s.reserved;
      unanswered = λ a _. cleared_answer g c a;
      unassuming = λ a _. cleared_assumed g c a;
    }

pub returns-in-Some-first_broken : goal.returns-in-Some-first_broken
returns-in-Some-first_broken g c =
    let s = c.args.self.now in
    let v = view g.B.Book.meaning s in
    let at = (goal.at.returns-in-Some-first_broken g c).After-fill-in-Some-first_broken in
    open_violates v.rules v.state c.args.literals.now c.if-self.false (sym c.in_default.ensures) _ _ _ c.in-Some-first_broken.rule
    (put_answer_lem g (goal.at.returns-in-Some-first_broken g c).After-put_literals)
    (fun_ext (λ a. cleared_answer g at a ∙ sym (s.unanswered a c.if-self.false)))
    (fun_ext (λ a. cleared_assumed g at a ∙ sym (s.unassuming a c.if-self.false)))
    (c.in-Some-first_broken.ensures ∙ ap (λ flags. first_broken v.rules (flagged flags)) c.deref.ensures.value)

pub invariant_of-self-2 : goal.invariant_of-self-2
invariant_of-self-2 g c =
    let s = c.args.self.now in
    let marks = with_items_is s.marks c.put_assumed.new.marks (omega (arith, c.put_assumed.auto, c.deref_mut-3.ensures.len)) ∙ c.put_assumed.ensures ∙ ap (map mark_assumed) c.deref-3.ensures.value in
    let flags = vec_items (with_items s.assumed c.put_literals.new.assumed) in
    record {
      tied = λ a. ap (λ ms. marking ms a) marks ∙ assumed_marking flags a ∙ sym (ap (λ es. marked_all (assuming (flagged flags)) es a) c.clear.ensures.items);
      answers = s.answers;
      assumes = s.assumes;
      sized = s.sized;
      room = omega (arith, c.clear.ensures.len, unmarked_most (vec_items (with_items s.marks c.put_assumed.new.marks)));
      reserved = omega (arith, s.reserved, c.clear.ensures.capacity);
      unanswered = λ a e. absurd (true≢false e);
      unassuming = λ a e. absurd (true≢false e);
    }

pub returns : goal.returns
returns g c =
    let v = view g.B.Book.meaning c.args.self.now in
    let at = (goal.at.returns g c).After-put_literals in
    open_takes v.rules v.state c.args.literals.now c.if-self.false (sym c.in_default.ensures) _ _ _ (put_answer_lem g at) (put_assumed g at) c.clear.ensures.items
    (c.in_default-first_broken.ensures ∙ ap (λ flags. first_broken v.rules (flagged flags)) c.deref.ensures.value)
