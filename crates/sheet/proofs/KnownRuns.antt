-- The known runs, computed.
use Rattle.std.proofs.Common.{refl}
use Rattle.sheet.specs.Bodies.{first_unmet}
use Rattle.sheet.specs.Verdicts.{first_unfailing, verdict}
use Rattle.sheet.specs.Open.{first_fault, first_broken}
use Rattle.sheet.specs.Strike.{place_of}
use Rattle.sheet.specs.Complete.{lowest, first_reason, round}
use Rattle.sheet.specs.KnownRuns.{KnownRunsAreRight}

pub known_runs_are_right : KnownRunsAreRight
unfolding first_unmet first_unfailing verdict first_fault first_broken place_of lowest first_reason round
known_runs_are_right = refl
