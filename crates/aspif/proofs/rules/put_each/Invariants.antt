use Rattle.std.proofs.Common.{◌≡◌, ℤ, List, length, drop, Result}
use Rattle.std.specs.List.{slice_get}
use Rattle.base.specs.Closures.{Computes}
use Rattle.base.specs.Sinks.{Takes}
use Rattle.base.specs.declared.short.TooShort.{TooShort}
use Rattle.aspif.specs.Texts.{spaced}
use Rattle.aspif.proofs.rules.put_each.Given as goal

-- whatever is taken from here on for the numbers that are left is taken from the first on for all
abbrev pub invariant-loop-at : goal.invariant-loop-at
invariant-loop-at g l =
    (zs : List ℤ) → length zs ≡ l.count → Computes (goal.F-post g l.number) (slice_get zs) → (r : Result (Unit {0}) TooShort) (t : _) → Takes g.S.Sink.fits g.S.Sink.after l.sink (spaced (drop l.at zs)) r t → Takes g.S.Sink.fits g.S.Sink.after l.initial.sink (spaced zs) r t
