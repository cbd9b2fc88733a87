-- Every list of calls on a new sheet is right.
use Rattle.std.proofs.Common.{refl, ◌∙◌}
use Rattle.book.specs.Rules.{Rules, Lawful}
use Rattle.sheet.specs.States.{State, new, assumed_marks}
use Rattle.sheet.specs.Runs.{run}
use Rattle.sheet.specs.Sound.{Sound}
use Rattle.sheet.specs.Law.{has_entry, Reliable, EveryRunIsRight}
use Rattle.sheet.proofs.Agreement.{grounded_part}
use Rattle.sheet.proofs.Keeping.{new_sound, run_sound}
use Rattle.sheet.proofs.MarkedAtoms.{entry_marks, either_marks, marks_agree}
use Rattle.sheet.proofs.Helper.{welcome}
use Rattle.sheet.proofs.Completed.{honest}

pub sound_reliable : (R : Rules) → Lawful R → (s : State) → Sound R s → Reliable R s
sound_reliable R lawful s k = record {
  grounded = k.grounded;
  marked = λ a. entry_marks (assumed_marks s) s.entries a ∙ either_marks (s.assumed a) (has_entry s.entries a);
  helper = λ is_open Ps. welcome R Ps (assumed_marks s) s is_open (marks_agree R s k) (grounded_part R s.answer (assumed_marks s) s.entries k.grounded);
  complete = honest R lawful s k;
}

pub every_run_is_right : EveryRunIsRight
every_run_is_right R lawful calls = record { exact = refl; reliable = sound_reliable R lawful (run R new calls).1 (run_sound R new (new_sound R) calls) }
