-- What a sheet shows.
use Rattle.std.specs.Prelude.{ℕ, cond, Some, None, Option}
use Rattle.std.specs.List.{slice_get}
use Rattle.sheet.specs.declared.mark.Mark.{Mark}
use Rattle.sheet.specs.declared.proposal.Proposal.{Proposal}
use Rattle.sheet.specs.Marks.{is_atom}
use Rattle.sheet.specs.States.{marks}
use Rattle.sheet.specs.View.{View}

-- an atom's mark; a number that is no atom of the book has none
abbrev pub mark_of : View → ℕ → Option Mark
mark_of v a = cond (is_atom v.rules a) (Some (marks v.state a)) None

-- the entry at a position
abbrev pub entry_in : View → ℕ → Option Proposal
entry_in v at = slice_get v.state.entries at
