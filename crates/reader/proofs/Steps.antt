-- Rows, number by number.
use Rattle.std.proofs.Common.{◌≡◌, ℕ, zero, suc, ◌-◌, ◌<◌, ◌≤◌, true, List, [], length, ℤ, is_ok, Ok, Err, Result, refl, ap, arith}
use Rattle.aspif.specs.declared.error.TextError.{TextError}
use Rattle.reader.specs.Fields.{and_then, Field}
use Rattle.reader.specs.Rows.{Row, item_at, before, row_at, row_end, row_values}
use Rattle.reader.specs.declared.pieces.Items.{Items}

-- a row of which so many numbers are left
pub row_more : (items : Items) (n : ℕ) (text : List ℕ) (at : ℕ) → 0 < n → row_at items n text at ≡ and_then (item_at items (n - 1) text at) (λ f. before f.value (row_at items (n - 1) text f.next))
unfolding row_at
row_more items zero text at h = absurd (omega arith)
row_more items (suc n) text at h = let e : suc n - 1 ≡ n = omega arith in simp e refl

pub row_empty : (items : Items) (n : ℕ) (text : List ℕ) (at : ℕ) → n ≤ 0 → row_at items n text at ≡ Ok (record { values = []; next = at })
unfolding row_at
row_empty items zero text at h = refl
row_empty items (suc n) text at h = absurd (omega arith)

pub row_end_before : (z : ℤ) (r : Result Row TextError) → row_end (before z r) ≡ row_end r
row_end_before z (Ok r) = refl
row_end_before z (Err e) = refl

pub ruleset row_steps = (row_more, row_empty, row_end_before)

-- a row, from where it ends and what it holds
pub row_back : (n : ℕ) (r : Result Row TextError) → Ok n ≡ row_end r → Ok (record { values = row_values r; next = n }) ≡ r
row_back n (Ok r) e = let h : n ≡ r.next = cc in ap (λ k. Ok (record { values = r.values; next = k })) h
row_back n (Err x) e = absurd cc

pub row_ok : (n : ℕ) (r : Result Row TextError) → Ok n ≡ row_end r → is_ok r ≡ true
row_ok n (Ok r) e = refl
row_ok n (Err x) e = absurd cc

pub ruleset row_reads = (row_back, row_ok)

-- how many numbers a row has that can be read

before_length : (z : ℤ) (n : ℕ) (r : Result Row TextError) → (is_ok r ≡ true → length (row_values r) ≡ n) → is_ok (before z r) ≡ true → length (row_values (before z r)) ≡ suc n
before_length z n (Ok r) h k = ap suc (h refl)
before_length z n (Err e) h k = absurd cc

then_length : (n : ℕ) (s : Result Field TextError) (k : ℕ → Result Row TextError) → ((at : ℕ) → is_ok (k at) ≡ true → length (row_values (k at)) ≡ n) → is_ok (and_then s (λ f. before f.value (k f.next))) ≡ true → length (row_values (and_then s (λ f. before f.value (k f.next)))) ≡ suc n
then_length n (Ok f) k h o = before_length f.value n (k f.next) (h f.next) o
then_length n (Err e) k h o = absurd cc

pub row_length : (items : Items) (n : ℕ) (text : List ℕ) (at : ℕ) → is_ok (row_at items n text at) ≡ true → length (row_values (row_at items n text at)) ≡ n
unfolding row_at
row_length items zero text at h = refl
row_length items (suc n) text at h = then_length n (item_at items n text at) (row_at items n text) (row_length items n text) h
