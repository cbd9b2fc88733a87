-- The number and the place that each refusal of lists is told by.
use Rattle.base.specs.declared.refusal.Refusal.{Refusal}
use Rattle.book.specs.declared.error.BookError.{BookError}
use Rattle.book.specs.declared.error.BookError.TheVariants.{TooManyAtoms, FaultyRule, FaultyRest}

abbrev pub refusal_of : BookError → Refusal
refusal_of TooManyAtoms = record { number = 8; first = 0; second = 0 }
refusal_of (FaultyRule place) = record { number = 8; first = place; second = 0 }
refusal_of (FaultyRest rules) = record { number = 8; first = rules; second = 0 }
