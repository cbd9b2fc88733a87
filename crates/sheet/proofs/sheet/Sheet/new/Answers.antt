use Rattle.std.proofs.Common.{◌≡◌, false, replicate, vec_items, vec_len, sym, ◌∙◌, arith, rules}
use Rattle.std.proofs.lemmas.Bool.{cond-false}
use Rattle.sheet.specs.Kept.{flagged}
use Rattle.sheet.proofs.Stored.{unmarked_most, no_flag, no_mark}
use Rattle.sheet.proofs.sheet.Sheet.new.Goals as goal

pub invariant_of-result : goal.invariant_of-result
invariant_of-result g c =
    let n = c.places-n.result in
    let a = c.in_ok-answer.ensures.items_if_clones_equal (λ y e. e) in
    let d = c.in_ok-assumed.ensures.items_if_clones_equal (λ y e. e) in
    let m = c.in_ok-marks.ensures.items_if_clones_equal (λ y e. e) in
    let e = c.in_ok-entries.ensures in
    let la : vec_len c.in_ok-answer.answer ≡ n = search rules in
    let ld : vec_len c.in_ok-assumed.assumed ≡ n = search rules in
    let lm : vec_len c.in_ok-marks.marks ≡ n = search rules in
    let size = c.places-n.ensures in
    record {
      tied = λ p. rw (m, d, e.items) (no_mark n p ∙ sym (cond-false (flagged (replicate n false) p) _ _ (no_flag n p)));
      answers = la ∙ size;
      assumes = ld ∙ size;
      sized = lm ∙ size;
      room = omega (arith, e.len, unmarked_most (vec_items c.in_ok-marks.marks));
      reserved = omega (arith, e.capacity, size);
      unanswered = λ p _. rw a (no_flag n p);
      unassuming = λ p _. rw d (no_flag n p);
    }
