-- What it says that a verdict made of tests is no refusal.
use Rattle.std.proofs.Common.{◌≡◌, Bool, true, false, cond, is_ok, Ok, Err, Result, refl}

pub ok_unless : {T E : Type 0} (b : Bool) (e : E) (r : Result T E) → is_ok (cond b (Err e) r) ≡ true → (b ≡ false) × (is_ok r ≡ true)
ok_unless true e r h = absurd cc
ok_unless false e r h = (refl, h)

pub ok_where : {T E : Type 0} (b : Bool) (x : T) (e : E) → is_ok (cond b (Ok x) (Err e)) ≡ true → b ≡ true
ok_where true x e h = refl
ok_where false x e h = h
