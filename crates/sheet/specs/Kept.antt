-- Sets and marks as a sheet keeps them: in lists, an atom's item at the place of its number.
use Rattle.std.specs.Prelude.{ℕ, suc, Bool, true, false, cond, List, [], ◌∷◌, ℤ, pos, negsuc, slice_index_or, slice_set}
use Rattle.sheet.specs.declared.mark.Mark.{Mark}
use Rattle.sheet.specs.declared.mark.Mark.TheVariants.{Unmarked, False}
use Rattle.sheet.specs.declared.proposal.Proposal.{Proposal}
use Rattle.sheet.specs.Lists.{how_many}
use Rattle.sheet.specs.Marks.{Atoms, Marks, is_unmarked, claim, mark_for}
use Rattle.sheet.specs.States.{State}

abbrev pub flagged : List Bool → Atoms
flagged flags a = slice_index_or flags a false

abbrev pub marking : List Mark → Marks
marking ms a = slice_index_or ms a Unmarked

-- how many atoms of all that a book can have are unmarked
unfoldable pub unmarked_in : List Mark → ℕ
unmarked_in ms = how_many (λ a. is_unmarked (marking ms a)) 1024

-- the flags with those of the positive, or of the negative, literals set
abbrev pub with_positives : List Bool → List ℤ → List Bool
with_positives flags [] = flags
with_positives flags (pos a ∷ zs) = with_positives (slice_set flags a true) zs
with_positives flags (negsuc a ∷ zs) = with_positives flags zs

abbrev pub with_negatives : List Bool → List ℤ → List Bool
with_negatives flags [] = flags
with_negatives flags (pos a ∷ zs) = with_negatives flags zs
with_negatives flags (negsuc a ∷ zs) = with_negatives (slice_set flags (suc a) true) zs

abbrev pub mark_assumed : Bool → Mark
mark_assumed flag = cond flag False Unmarked

-- the marks with those of proposals set
abbrev pub with_marks : List Mark → List Proposal → List Mark
with_marks ms [] = ms
with_marks ms (P ∷ Ps) = with_marks (slice_set ms P.atom (mark_for (claim P.reason))) Ps

-- an open sheet with these sets and entries
abbrev pub open_with : List Bool → List Bool → List Proposal → State
open_with answer assumed es = record { opened = true; answer = flagged answer; assumed = flagged assumed; entries = es }
