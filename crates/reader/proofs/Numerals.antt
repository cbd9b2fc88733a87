-- Digits and the numbers that they write.
use Rattle.std.proofs.Common.{◌≡◌, ℕ, ◌+◌, ◌*◌, ◌^◌, ◌<◌, ◌≤◌, Bool, true, false, List, [], ◌∷◌, length, get_or, take, drop, refl, ⊎_elim, pow-suc, add-one, one-add, arith}
use native.Mathlib.Nat.{pow-le-pow_right}
use Rattle.std.specs.Char.{is_ascii_digit}
use Rattle.std.specs.List.{prefix_len}
use Rattle.std.proofs.lemmas.List.Sums.{prefix_len-drop_no}
use Rattle.std.proofs.lemmas.Bool.{cases_Bool}
use Rattle.std.proofs.lemmas.Bool.Decides.{nat_tests}

digit_range : (c : ℕ) → is_ascii_digit c ≡ true → (48 ≤ c) × (c ≤ 57)
digit_range c e = grind (arith, nat_tests)

digit_here : (xs : List ℕ) (i : ℕ) → i < length xs → prefix_len is_ascii_digit (drop i xs) + i ≡ length xs → is_ascii_digit (get_or xs i 0) ≡ true
digit_here xs i h e = ⊎_elim (λ y. y) (λ n. absurd (omega (arith, prefix_len-drop_no is_ascii_digit xs i 0 h n))) (cases_Bool (is_ascii_digit (get_or xs i 0)))

-- where only digits are left, the next one is between 0 and 9
pub digit_now : (xs : List ℕ) (i : ℕ) → i < length xs → prefix_len is_ascii_digit (drop i xs) + i ≡ length xs → (is_ascii_digit (get_or xs i 0) ≡ true) × (48 ≤ get_or xs i 0) × (get_or xs i 0 ≤ 57)
digit_now xs i h e = let d = digit_here xs i h e in (d, (digit_range _ d).0, (digit_range _ d).1)

pub ten_step : (v d i : ℕ) → v < 10 ^ i → d ≤ 9 → v * 10 + d < 10 ^ (i + 1)
ten_step v d i h k = rw (add-one, pow-suc) (omega arith)

pub ten_room : (v i k : ℕ) → v < 10 ^ i → i ≤ k → v < 10 ^ k
ten_room v i k h le = omega (arith, pow-le-pow_right {n = 10} (omega arith) le)

pub ruleset digit_steps = (digit_now, ten_step, ten_room)

front_by : (p : ℕ → Bool) (x : ℕ) (xs : List ℕ) (b : Bool) → p x ≡ b → prefix_len p (take (prefix_len p xs) xs) ≡ prefix_len p xs → prefix_len p (take (prefix_len p (x ∷ xs)) (x ∷ xs)) ≡ prefix_len p (x ∷ xs)
front_by p x xs true y ih = simp (y, one-add, ih)
front_by p x xs false n ih = simp n

-- in the longest front that passes, everything passes
pub front_all : (p : ℕ → Bool) (xs : List ℕ) → prefix_len p (take (prefix_len p xs) xs) ≡ prefix_len p xs
front_all p [] = refl
front_all p (x ∷ xs) = front_by p x xs (p x) refl (front_all p xs)
