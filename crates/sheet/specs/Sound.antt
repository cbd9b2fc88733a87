-- What every sheet has that was new once: each call keeps it, and the law follows from it.
use Rattle.std.specs.Prelude.{◌≡◌, ℕ, true, false}
use Rattle.book.specs.Rules.{Rules, Atom}
use Rattle.sheet.specs.AnswerSets.{Unbroken}
use Rattle.sheet.specs.Allowed.{Grounded}
use Rattle.sheet.specs.States.{State, assumed_marks}

pub record Sound (R : Rules) (s : State) : Type 0 where
  -- the atoms of both sets are atoms of the book, and no assumed one is in the answer
  pub inside : (a : ℕ) → s.answer a ≡ true → Atom R.atoms a
  pub assumed : (a : ℕ) → s.assumed a ≡ true → Atom R.atoms a
  pub apart : (a : ℕ) → s.assumed a ≡ true → s.answer a ≡ false
  -- open saw to it
  pub unbroken : s.opened ≡ true → Unbroken R s.answer
  pub grounded : Grounded R s.answer (assumed_marks s) s.entries
