-- A strike counts what it takes off.
use Rattle.std.proofs.Common.{◌≡◌, ℕ, ◌+◌, ◌-◌, ◌<◌, ◌≤◌, cond, not, length, take, drop, Some, None, Ok, Option, refl, arith, length-drop, length-take}
use Rattle.std.proofs.lemmas.Bool.{cond_both}
use Rattle.book.specs.Rules.{Rules}
use Rattle.sheet.specs.declared.error.SheetError.{SheetError}
use Rattle.sheet.specs.declared.error.SheetError.TheVariants.{WrongState, UnknownAtom, NoEntry}
use Rattle.sheet.specs.Marks.{is_atom}
use Rattle.sheet.specs.States.{State, with_entries, After, refused}
use Rattle.sheet.specs.Strike.{entry_at, place_of, without, strike_at, CountsTheStruck}
use Rattle.sheet.proofs.Entering.{all_length}
use Rattle.sheet.proofs.Searches.{least_passes}

module _ (R : Rules) (s : State) where
  -- the struck entry itself is taken off, and no other is put in its place
  pub fewer_entries : (p at : ℕ) → place_of s.entries p ≡ Some at → length (without R s at).entries < length s.entries
  unfolding place_of
  fewer_entries p at e =
      omega (
        arith,
        (least_passes (entry_at s.entries p) (length s.entries) at e).0,
        all_length R (with_entries s (take at s.entries)) (drop (at + 1) s.entries),
        length-take at s.entries,
        length-drop (at + 1) s.entries,
      )

  abbrev Counted : After ℕ → Type 0
  Counted o = (n : ℕ) → o.0 ≡ Ok n → (1 ≤ n) × (length o.1.entries + n ≡ length s.entries)

  refused_counted : (e : SheetError) → Counted (refused s e)
  refused_counted e n q = absurd cc

  place_counted : (p : ℕ) (o : Option ℕ) → place_of s.entries p ≡ o → Counted (strike_at R s o)
  place_counted p None e n q = refused_counted NoEntry n q
  place_counted p (Some at) e n q =
      let count : length s.entries - length (without R s at).entries ≡ n = cc in
      let less = fewer_entries p at e in
      (omega arith, omega arith)

  pub counts_the_struck : (p : ℕ) → CountsTheStruck R s p
  counts_the_struck p =
      let struck = strike_at R s (place_of s.entries p) in
      cond_both (not s.opened) (refused s WrongState) (cond (not (is_atom R p)) (refused s (UnknownAtom 0)) struck) Counted (λ _. refused_counted WrongState)
      (λ _. cond_both (not (is_atom R p)) (refused s (UnknownAtom 0)) struck Counted (λ _. refused_counted (UnknownAtom 0))
      (λ _. place_counted p (place_of s.entries p) refl))
