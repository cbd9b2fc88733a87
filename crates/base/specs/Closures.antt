-- What a closure that is handed over computes.
use Rattle.std.specs.Prelude.{◌≡◌}

-- whatever it answers is what f says
abbrev pub Computes : {X Y : Type 0} → (X → Y → Type 0) → (X → Y) → Type 0
Computes {X} {Y} answers f = (x : X) (y : Y) → answers x y → y ≡ f x
