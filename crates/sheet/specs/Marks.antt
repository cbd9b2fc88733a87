-- Sets of atoms, the marks of atoms, and what a proposal marks.
use Rattle.std.specs.Prelude.{ℕ, Bool, true, false, cond, not, ◌&&◌, List, [], ◌∷◌, ◌==◌, nat_le}
use Rattle.book.specs.Rules.{Rules}
use Rattle.sheet.specs.declared.mark.Mark.{Mark}
use Rattle.sheet.specs.declared.mark.Mark.TheVariants.{Unmarked, True, False}
use Rattle.sheet.specs.declared.proposal.Reason.{Reason}
use Rattle.sheet.specs.declared.proposal.Reason.TheVariants.{Support, Lack, Required}
use Rattle.sheet.specs.declared.proposal.Proposal.{Proposal}

-- a set of atoms: whether an atom is in it
abbrev pub Atoms : Type 0
Atoms = ℕ → Bool

-- the mark of each atom
abbrev pub Marks : Type 0
Marks = ℕ → Mark

-- a number that is an atom of the book
abbrev pub is_atom : Rules → ℕ → Bool
is_atom R a = nat_le 1 a && nat_le a R.atoms

abbrev pub is_unmarked : Mark → Bool
is_unmarked Unmarked = true
is_unmarked True = false
is_unmarked False = false

-- the mark says true, or it says false; an unmarked atom says neither
abbrev pub says : Bool → Mark → Bool
says b Unmarked = false
says b True = b
says b False = not b

-- support is a reason for true, the others are reasons for false
abbrev pub claim : Reason → Bool
claim (Support rule) = true
claim Lack = false
claim (Required rule) = false

abbrev pub mark_for : Bool → Mark
mark_for true = True
mark_for false = False

-- the marks once a proposal was taken
abbrev pub marked : Marks → Proposal → Marks
marked m P a = cond (a == P.atom) (mark_for (claim P.reason)) (m a)

abbrev pub marked_all : Marks → List Proposal → Marks
marked_all m [] = m
marked_all m (P ∷ Ps) = marked_all (marked m P) Ps

-- exactly the assumed atoms are marked, all of them false
abbrev pub assuming : Atoms → Marks
assuming X a = cond (X a) False Unmarked
