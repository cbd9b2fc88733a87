-- Striking an entry off.
use Rattle.std.specs.Prelude.{◌≡◌, ℕ, ◌+◌, ◌-◌, ◌≤◌, Bool, cond, not, List, length, take, drop, Some, None, Ok, Option, ◌==◌}
use Rattle.std.specs.List.{slice_get}
use Rattle.base.specs.Search.{least}
use Rattle.book.specs.Rules.{Rules}
use Rattle.sheet.specs.declared.error.SheetError.TheVariants.{UnknownAtom, WrongState, NoEntry}
use Rattle.sheet.specs.declared.proposal.Proposal.{Proposal}
use Rattle.sheet.specs.Lists.{passes}
use Rattle.sheet.specs.Marks.{is_atom}
use Rattle.sheet.specs.States.{State, with_entries, After, refused}
use Rattle.sheet.specs.Enter.{enter_all}

abbrev pub is_of : ℕ → Proposal → Bool
is_of p P = p == P.atom

abbrev pub entry_at : List Proposal → ℕ → ℕ → Bool
entry_at es p at = passes (is_of p) (slice_get es at)

-- where an atom's entry stands
unfoldable pub place_of : List Proposal → ℕ → Option ℕ
place_of es p = least (entry_at es p) (length es)

-- the entries above a place stay, and of those below it the ones that are still allowed, tested in their order
abbrev pub without : Rules → State → ℕ → State
without R s at = enter_all R (with_entries s (take at s.entries)) (drop (at + 1) s.entries)

-- how many entries t has less than s
abbrev pub taken_off : State → State → After ℕ
taken_off s t = (Ok (length s.entries - length t.entries), t)

abbrev pub strike_at : Rules → State → Option ℕ → After ℕ
strike_at R s None = refused s NoEntry
strike_at R s (Some at) = taken_off s (without R s at)

abbrev pub strike_call : Rules → State → ℕ → After ℕ
strike_call R s p =
    cond (not s.opened) (refused s WrongState)
    (cond (not (is_atom R p)) (refused s (UnknownAtom 0))
    (strike_at R s (place_of s.entries p)))

-- A strike that is taken takes off one entry at least, and answers how many.
abbrev pub CountsTheStruck : Rules → State → ℕ → Type 0
CountsTheStruck R s p = (n : ℕ) → (strike_call R s p).0 ≡ Ok n → (1 ≤ n) × (length (strike_call R s p).1.entries + n ≡ length s.entries)
