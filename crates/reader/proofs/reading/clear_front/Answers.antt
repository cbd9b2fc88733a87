use Rattle.std.proofs.Common.{ℕ, ◌++◌, drop, replicate, sym, ap, ◌∙◌, arith, length-take, rules}
use Rattle.std.proofs.lemmas.List.{length-replicate}
use Rattle.base.proofs.Puts.{sets_front}
use Rattle.reader.proofs.reading.clear_front.Goals as goal

pub returns : goal.returns
returns c =
    let old = c.args.list.now in
    let n = c.args.count in
    let zeros = replicate {A = ℕ} n 0 in
    let long = length-replicate {A = ℕ} n 0 in
    ap (◌++ drop n old) (c.fill.ensures.after (λ y e. search rules) ∙ ap (λ k. replicate k 0) (omega (arith, length-take n old, c.requires)))
    ∙ ap (λ k. zeros ++ drop k old) (sym long) ∙ sym (sets_front old zeros (omega (arith, long, c.requires)))
