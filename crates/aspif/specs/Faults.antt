-- The number and the place that each refusal of a text is told by.
use Rattle.std.specs.Prelude.{ℕ}
use Rattle.base.specs.declared.refusal.Refusal.{Refusal}
use Rattle.aspif.specs.declared.error.TextError.{TextError}
use Rattle.aspif.specs.declared.error.TextError.TheVariants.{WrongHeading, Malformed, Unsupported, DisjunctiveHead, UnknownAtom, OverLimit, UnexpectedEnd, TooShort}

abbrev at : ℕ → ℕ → Refusal
at number place = record { number = number; first = place; second = 0 }

abbrev pub refusal_of : TextError → Refusal
refusal_of WrongHeading = at 1 0
refusal_of (Malformed place) = at 2 place
refusal_of (Unsupported place) = at 3 place
refusal_of (DisjunctiveHead place) = at 4 place
refusal_of (UnknownAtom place) = at 5 place
refusal_of (OverLimit place) = at 6 place
refusal_of (UnexpectedEnd place) = at 7 place
refusal_of TooShort = at 17 0
