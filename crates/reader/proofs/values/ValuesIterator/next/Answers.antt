use Rattle.std.proofs.Common.{length, w32, SFits, sym, ap, ◌∙◌, subst, arith, rules}
use Rattle.std.specs.Iterator.{YieldsFirst}
use Rattle.std.proofs.lemmas.Int.{to_z-of_z}
use Rattle.std.proofs.lemmas.Bool.{true≢false}
use Rattle.reader.specs.Seen.{numbers_in}
use Rattle.reader.specs.declared.values.Values.{Values}
use Rattle.reader.proofs.RowValues.{FirstOf, is_read, first_of, none_first}
use Rattle.reader.proofs.values.ValuesIterator.next.Goals as goal
use Rattle.reader.proofs.values.ValuesIterator.next.Goals.{In_ok-number}

-- the first number, and the numbers after it
first : (c : In_ok-number) → FirstOf c.args.self.now.rest c.in_ok-more.more c.item.new.self c.in_ok-number.number
first c = first_of c.args.self.now.rest c.in_ok-more.more (omega arith) c.item.result c.item.new.self c.item.ensures c.in_ok-number.number (search rules)

pub returns-in_err-more-clause-steps : goal.returns-in_err-more-clause-steps
returns-in_err-more-clause-steps c =
    let ns = c.args.self.now.rest in
    let none = none_first ns.items ns.count ns.start.text.now ns.start.at (omega (arith, c.in_err-more.ensures)) in
    subst (λ r. YieldsFirst (λ (v : Values). numbers_in v.rest) c.args.self.now r c.args.self.now) (sym c.from_residual.ensures) (none, none)

pub returns-in_err-number-clause-steps : goal.returns-in_err-number-clause-steps
returns-in_err-number-clause-steps c =
    let read = is_read c.args.self.now.rest c.in_ok-more.more (omega arith) c.item.result c.item.new.self c.item.ensures in
    absurd (true≢false (sym read ∙ sym c.in_err-number.ensures.variant))

pub invariant_of-self : goal.invariant_of-self
invariant_of-self c = record { reads = (first c).reads }

pub returns-clause-steps : goal.returns-clause-steps
returns-clause-steps c =
    let fits : SFits w32 c.in_ok-number.number = search rules in
    simp to_z-of_z (first (goal.at.returns-clause-steps c).In_ok-number).values

pub returns-clause-goes : goal.returns-clause-goes
returns-clause-goes c = record { on = λ _. (tt, tt, omega (arith, ap length (first (goal.at.returns-clause-goes c).In_ok-number).values)); keeps = tt; rests = λ _. tt }
