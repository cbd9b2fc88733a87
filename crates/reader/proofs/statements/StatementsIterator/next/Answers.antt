use Rattle.std.proofs.Common.{◌≡◌, length, [], ◌∷◌, is_ok, Ok, Option, Result, sym, ap, ◌∙◌, arith, rules}
use denote.Ref.{Bor}
use mathlib.Core.List.{List}
use Prim.Native.Nat.{ℕ}
use Rattle.reader.specs.Fill.{said_from, listed}
use Rattle.reader.specs.Lines.{Line}
use Rattle.reader.specs.Seen.{meant, line_to, statements_left}
use Rattle.reader.specs.declared.statement.Statement.{Statement}
use Rattle.aspif.specs.declared.error.TextError.{TextError}
use Rattle.reader.proofs.NextLines.{SaysOn, says_on, says_end, says_none}
use Rattle.reader.proofs.statements.StatementsIterator.next.Goals as goal
use Rattle.reader.proofs.statements.StatementsIterator.next.Goals.{In-Ok-Some}

-- the first statement, and the statements after it
first : (c : In-Ok-Some) → SaysOn (length c.args.self.now.cursor.text.now) c.args.self.now.cursor.text.now c.args.self.now.cursor.at (meant c.in-Ok-Some.statement) c.statement.new.self.at
first c =
    let w = c.in-Ok-Some in
    let S = c.args.self.now in
    let text = S.cursor.text.now in
    let next = c.statement.new.self.at in
    let line = ap {B = Result Line TextError} (λ (o : Option Statement). Ok (line_to o next)) (sym w.field-0-is) ∙ w.ensures.tells in
    says_on (length text) text S.cursor.at (meant w.statement) next line S.said

rest : (c : In-Ok-Some) → statements_left c.args.self.now ≡ meant c.in-Ok-Some.statement ∷ listed (said_from (length c.statement.new.self.text.now) c.statement.new.self.text.now c.statement.new.self.at)
rest c = (first c).list ∙ ap (λ (t : Bor (List ℕ)). meant c.in-Ok-Some.statement ∷ listed (said_from (length t.now) t.now c.statement.new.self.at)) (sym c.in-Ok-Some.ensures.same_text)

pub invariant_of-self : goal.invariant_of-self
invariant_of-self c = record { said = ap (λ (t : Bor (List ℕ)). is_ok (said_from (length t.now) t.now c.statement.new.self.at)) c.in-Ok-Some.ensures.same_text ∙ (first c).reads }

pub returns-clause-steps : goal.returns-clause-steps
returns-clause-steps c = rest (goal.at.returns-clause-steps c).In-Ok-Some

pub returns-clause-goes : goal.returns-clause-goes
returns-clause-goes c = record { on = λ _. (tt, tt, omega (arith, ap length (rest (goal.at.returns-clause-goes c).In-Ok-Some))); keeps = tt; rests = λ _. tt }

pub returns-in_default-clause-steps : goal.returns-in_default-clause-steps
returns-in_default-clause-steps c =
    let S = c.args.self.now in
    let text = S.cursor.text.now in
    let none : statements_left S ≡ [] = elim c.in_default.branch [
      | goal.in_default-via-in-Ok+in_default w ↦ says_end (length text) text S.cursor.at c.statement.new.self.at (search rules)
      | goal.in_default-via-in_default w ↦ says_none (length text) text S.cursor.at w.in_default.field-0 (search rules)
    ] in
    (none, none)
