-- A count of bytes with a limit.
use Rattle.std.specs.Prelude.{◌≡◌, ℕ, ◌+◌, Bool, List, length, nat_le}
use Rattle.base.specs.declared.tally.Tally.{Tally}

-- the count after so many bytes more, of the same most
abbrev pub MoreBy : ℕ → Tally → Tally → Type 0
MoreBy n t u = (u.size ≡ t.size + n) × (u.most ≡ t.most)

abbrev pub within : Tally → List ℕ → Bool
within t bs = nat_le (t.size + length bs) t.most

abbrev pub counted : Tally → List ℕ → Tally → Type 0
counted t bs u = MoreBy (length bs) t u
