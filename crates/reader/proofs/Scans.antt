-- The steps of reading a number.
use Rattle.std.proofs.Common.{◌≡◌, ℕ, ◌+◌, ◌-◌, ◌<◌, Bool, true, false, cond, ltb, List, length, get_or, take, drop, ℤ, Some, None, Ok, Err, sym, refl, ap, ◌∙◌, arith}
use Rattle.std.specs.Char.{is_ascii_digit}
use Rattle.std.specs.List.{prefix_len}
use Rattle.std.proofs.lemmas.Int.{to_z-of_z}
use Rattle.std.proofs.lemmas.List.{take_rest}
use Rattle.std.proofs.lemmas.List.Folds.{length-prefix_len}
use Rattle.std.proofs.lemmas.Bool.{cond-true, lt-ltb}
use Rattle.std.proofs.lemmas.Option.{cond_some, none-some}
use Rattle.aspif.specs.declared.error.TextError.{TextError}
use Rattle.aspif.specs.declared.error.TextError.TheVariants.{Malformed, UnexpectedEnd}
use Rattle.reader.specs.Fields.{minus_at, digits_from, digits_count, formed, number_of, follows, byte_at, judged, field_by, field_at, field_to}
use Rattle.reader.specs.declared.pieces.After.{After}
use Rattle.reader.proofs.Numerals.{front_all}

formed_none : (b : Bool) (s : ℤ) → cond b (Some s) None ≡ None → b ≡ false
formed_none true s e = absurd (none-some s (sym e))
formed_none false s e = refl

no_byte : (b : Bool) (n : ℕ) (x y : TextError) → Err y ≡ cond b (Ok n) (Err x) → (b ≡ false) × (y ≡ x)
no_byte true n x y e = absurd cc
no_byte false n x y e = (refl, cc)

-- a number from its digits, of which so many stand at the front of the rest
module _ (after : After) (text : List ℕ) (at from n : ℕ) (minus : Bool) (m : minus ≡ minus_at text at) (f : from ≡ digits_from text at) (e : n ≡ prefix_len is_ascii_digit (take (length text - from) (drop from text))) where
  count : n ≡ digits_count text from
  count = e ∙ ap (prefix_len is_ascii_digit) (take_rest text from)

  field_back : field_by after text at from n ≡ field_at after text at
  unfolding field_at
  field_back = ap (λ k. field_by after text at from k) count ∙ ap (λ k. field_by after text at k (digits_count text k)) f

  pub no_end : (x : TextError) → Err x ≡ byte_at text (from + n) → Err x ≡ field_at after text at
  no_end x h =
      let p = no_byte (ltb (from + n) (length text)) (get_or text (from + n) 0) (UnexpectedEnd (length text)) x h in
      ap Err p.1 ∙ sym (simp p.0 refl) ∙ field_back

  abbrev digits : List ℕ
  digits = take (from + n - from) (drop from text)

  pub only_digits : prefix_len is_ascii_digit digits ≡ length digits
  only_digits =
      let rest = drop from text in
      let size : from + n - from ≡ digits_count text from = omega (arith, count) in
      ap (λ k. prefix_len is_ascii_digit (take k rest)) size ∙ front_all is_ascii_digit rest ∙ sym (length-prefix_len is_ascii_digit rest) ∙ ap (λ k. length (take k rest)) (sym size)

  judged_here : from + n < length text → judged after minus digits (get_or text (from + n) 0) at (from + n) ≡ field_at after text at
  judged_here h =
      let size : from + n - from ≡ n = omega arith in
      ap (λ k. judged after minus (take k (drop from text)) (get_or text (from + n) 0) at (from + n)) size
      ∙ ap (λ b. judged after b (take n (drop from text)) (get_or text (from + n) 0) at (from + n)) m
      ∙ sym (cond-true (ltb (from + n) (length text)) _ _ (lt-ltb (from + n) (length text) h)) ∙ field_back

  pub number_here : (v : ℤ) → from + n < length text → number_of minus digits ≡ Some v → follows after v (get_or text (from + n) 0) ≡ true → Ok (field_to text v (from + n + 1)) ≡ field_at after text at
  number_here v h o g =
      let p = cond_some (formed minus digits) _ v o in
      let back : from + n + 1 - 1 ≡ from + n = omega arith in
      ap (λ k. Ok (record { value = v; ending = get_or text k 0; next = from + n + 1 })) back ∙ sym (simp (p.0, p.1, g) refl) ∙ judged_here h

  pub not_formed : from + n < length text → number_of minus digits ≡ None → Err (Malformed at) ≡ field_at after text at
  not_formed h o = let p = formed_none (formed minus digits) _ o in sym (simp p refl) ∙ judged_here h

  pub not_followed : (v : ℤ) → from + n < length text → number_of minus digits ≡ Some v → follows after v (get_or text (from + n) 0) ≡ false → Err (Malformed at) ≡ field_at after text at
  not_followed v h o g = let p = cond_some (formed minus digits) _ v o in sym (simp (p.0, p.1, g) refl) ∙ judged_here h

pub ruleset number_steps = (only_digits, no_end, number_here, not_formed, not_followed, to_z-of_z)
