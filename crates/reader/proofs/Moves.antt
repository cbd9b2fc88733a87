-- Reading goes forward and stays inside the text.
use Rattle.std.proofs.Common.{◌≡◌, ℕ, zero, suc, ◌+◌, ◌<◌, ◌≤◌, Bool, true, false, cond, ◌&&◌, ltb, List, length, get_or, take, drop, ℤ, is_ok, IfOk, Ok, Err, Result, refl, arith}
use Rattle.std.proofs.lemmas.Bool.{and_from, cond_both, ltb-true}
use Rattle.std.specs.List.{list_all}
use Rattle.aspif.specs.declared.error.TextError.{TextError}
use Rattle.reader.specs.Fields.{and_then, formed, follows, minus_at, digits_from, digits_count, field_at, Field}
use Rattle.reader.specs.Rows.{allowed, after_item, item_at, Row, before, row_at, row_values}
use Rattle.reader.specs.declared.pieces.After.{After}
use Rattle.reader.specs.declared.pieces.Items.{Items}
use Rattle.reader.proofs.RowValues.{before_ok}

-- a number ends after where it began, and before the end of the text
abbrev Moves : ℕ → ℕ → Result Field TextError → Type 0
Moves at end r = IfOk r (λ f. (at < f.next) × (f.next ≤ end))

pub start_after : (at : ℕ) (m : Bool) → at ≤ cond m (at + 1) at
start_after at true = omega arith
start_after at false = omega arith

pub field_moves : (after : After) (text : List ℕ) (at : ℕ) → Moves at (length text) (field_at after text at)
unfolding field_at
field_moves after text at =
    let from = digits_from text at in
    let n = digits_count text from in
    let start : at ≤ from = start_after at (minus_at text at) in
    cond_both (ltb (from + n) (length text)) _ _ (Moves at (length text))
    (λ t. let inside = ltb-true (from + n) (length text) t in cond_both (formed (minus_at text at) (take n (drop from text)) && follows after _ (get_or text (from + n) 0)) _ _ (Moves at (length text)) (λ _. (omega arith, omega arith)) (λ _. tt))
    (λ _. tt)

then_moves : (at end : ℕ) (p : ℤ → Bool) (x : TextError) (r : Result Field TextError) → Moves at end r → Moves at end (and_then r (λ f. cond (p f.value) (Ok f) (Err x)))
then_moves at end p x (Ok f) h = cond_both (p f.value) (Ok f) (Err x) (Moves at end) (λ _. h) (λ _. tt)
then_moves at end p x (Err e) h = tt

item_moves : (items : Items) (more : ℕ) (text : List ℕ) (at : ℕ) → Moves at (length text) (item_at items more text at)
unfolding item_at
item_moves items more text at = then_moves at (length text) (allowed items) _ (field_at (after_item items more) text at) (field_moves (after_item items more) text at)

then_few : (n at end : ℕ) (s : Result Field TextError) (k : ℕ → Result Row TextError) → Moves at end s → ((b : ℕ) → b ≤ end → is_ok (k b) ≡ true → b + n ≤ end) → is_ok (and_then s (λ f. before f.value (k f.next))) ≡ true → at + suc n ≤ end
then_few n at end (Ok f) k h go o = omega (arith, go f.next h.1 (before_ok f.value (k f.next) o).0)
then_few n at end (Err e) k h go o = absurd cc

-- a row has no more numbers than there are bytes
pub row_few : (items : Items) (n : ℕ) (text : List ℕ) (at : ℕ) → at ≤ length text → is_ok (row_at items n text at) ≡ true → at + n ≤ length text
unfolding row_at
row_few items zero text at h o = omega arith
row_few items (suc n) text at h o = then_few n at (length text) (item_at items n text at) (row_at items n text) (item_moves items n text at) (λ b. row_few items n text b) o

-- each number of a row is one that may stand there

item_allowed_by : (p : ℤ → Bool) (x : TextError) (s : Result Field TextError) → IfOk (and_then s (λ f. cond (p f.value) (Ok f) (Err x))) (λ f. p f.value ≡ true)
item_allowed_by p x (Ok f) = cond_both (p f.value) (Ok f) (Err x) (λ r. IfOk r (λ g. p g.value ≡ true)) (λ t. t) (λ _. tt)
item_allowed_by p x (Err e) = tt

item_allowed : (items : Items) (more : ℕ) (text : List ℕ) (at : ℕ) → IfOk (item_at items more text at) (λ f. allowed items f.value ≡ true)
unfolding item_at
item_allowed items more text at = item_allowed_by (allowed items) _ (field_at (after_item items more) text at)

before_allowed : (p : ℤ → Bool) (z : ℤ) (r : Result Row TextError) → p z ≡ true → list_all p (row_values r) ≡ true → list_all p (row_values (before z r)) ≡ true
before_allowed p z (Ok r) h k = and_from (p z) (list_all p r.values) h k
before_allowed p z (Err e) h k = refl

then_allowed : (p : ℤ → Bool) (s : Result Field TextError) (k : ℕ → Result Row TextError) → IfOk s (λ f. p f.value ≡ true) → ((b : ℕ) → list_all p (row_values (k b)) ≡ true) → list_all p (row_values (and_then s (λ f. before f.value (k f.next)))) ≡ true
then_allowed p (Ok f) k h go = before_allowed p f.value (k f.next) h (go f.next)
then_allowed p (Err e) k h go = refl

pub row_allowed : (items : Items) (n : ℕ) (text : List ℕ) (at : ℕ) → list_all (allowed items) (row_values (row_at items n text at)) ≡ true
unfolding row_at
row_allowed items zero text at = refl
row_allowed items (suc n) text at = then_allowed (allowed items) (item_at items n text at) (row_at items n text) (item_allowed items n text at) (row_allowed items n text)
