-- What a pen puts, as one of the pieces that are taken one after another.
use Rattle.std.proofs.Common.{◌≡◌, Bool, true, false, cond, List, Ok, Err, Result, ap, ◌∙◌, subst}
use Rattle.base.specs.Pens.{Page, page, has_room, with_items, filled, putting}
use Rattle.base.specs.declared.pen.Pen.{Pen}
use Rattle.base.specs.declared.short.TooShort.{TooShort}
use Rattle.reader.specs.Fill.{Puts}

module _ {X : Type 0} (p q : Pen X) (xs : List X) where
  by_room : (b : Bool) (r : Result (Unit {0}) TooShort) → ◌≡◌ {A = Result (Unit {0}) TooShort × Page X} (r, page q) (cond b (Ok tt, with_items (page p) xs) (Err (record {}), page p)) → (r ≡ cond b (Ok tt) (Err (record {}))) × (b ≡ true → page q ≡ with_items (page p) xs)
  by_room true r e = (ap (λ t. t.0) e, λ _. ap (λ t. t.1) e)
  by_room false r e = (ap (λ t. t.0) e, λ h. absurd cc)

  pub pen_takes : (ys : List X) → xs ≡ ys → (r : Result (Unit {0}) TooShort) → ◌≡◌ {A = Result (Unit {0}) TooShort × Page X} (r, page q) (putting (page p) xs) → q.out.ghost_name ≡ p.out.ghost_name → Puts p ys r q
  pen_takes ys whole r e same = let t = by_room (has_room (page p) xs) r e in subst (λ zs. Puts p zs r q) whole (record { tells = t.0; taken = λ h. (t.1 h, same) })

  -- where there is room, the items are put
  pub pen_filled : (r : Result (Unit {0}) TooShort) → has_room (page p) xs ≡ true → Puts p xs r q → (r ≡ Ok tt) × filled p xs q
  pen_filled r h t = (t.tells ∙ ap (λ b. cond b (Ok tt) (Err (record {}))) h, t.taken h)
