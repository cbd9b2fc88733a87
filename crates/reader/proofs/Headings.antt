-- The tests that come before all lines.
use Rattle.std.proofs.Common.{◌≡◌, ℕ, ◌<◌, ◌≤◌, true, false, eqb, List, [], ◌∷◌, length, Err, sym, ◌∙◌, arith}
use Rattle.std.proofs.lemmas.Bool.{and_parts, cond-true, cond-false, lt-ltb, le-ltb}
use Rattle.aspif.specs.Texts.{heading}
use Rattle.aspif.specs.declared.error.TextError.TheVariants.{WrongHeading, OverLimit}
use Rattle.reader.specs.Read.{begins, statements_of}
use Rattle.reader.specs.Scan.{nothing, statements_from}

begins_long : (xs ys : List ℕ) → begins xs ys ≡ true → length xs ≤ length ys
begins_long [] ys h = omega arith
begins_long (x ∷ xs) [] h = absurd cc
begins_long (x ∷ xs) (y ∷ ys) h = omega (arith, begins_long xs ys (and_parts (eqb y x) (begins xs ys) h).1)

module _ (text : List ℕ) where
  pub heading_long : true ≡ begins heading text → 10 ≤ length text
  unfolding heading
  heading_long h = begins_long heading text (sym h)

  pub over_limit_lem : 65536 < length text → statements_of text ≡ Err (OverLimit 0)
  unfolding statements_of
  over_limit_lem h = cond-true _ _ _ (lt-ltb 65536 (length text) h)

  pub no_heading : length text ≤ 65536 → false ≡ begins heading text → statements_of text ≡ Err WrongHeading
  unfolding statements_of
  no_heading h e = cond-false _ _ _ (le-ltb 65536 (length text) h) ∙ cond-false _ _ _ (sym e)

  pub headed : length text ≤ 65536 → true ≡ begins heading text → statements_of text ≡ statements_from (length text) nothing text 10
  unfolding statements_of
  headed h e = cond-false _ _ _ (le-ltb 65536 (length text) h) ∙ cond-true _ _ _ (sym e)
