-- The statements of a text, line by line.
use Rattle.std.proofs.Common.{◌≡◌, ℕ, suc, ◌+◌, ◌<◌, ◌≤◌, true, false, List, length, Ok, Err, Result, sym, refl, ap, ◌∙◌, ◌≢◌, arith}
use Rattle.std.proofs.lemmas.Result.{IfOk-at_ok}
use Rattle.std.proofs.lemmas.Bool.Decides.{nat_tests}
use Rattle.aspif.specs.declared.error.TextError.{TextError}
use Rattle.aspif.specs.declared.error.TextError.TheVariants.{Malformed, OverLimit}
use Rattle.reader.specs.Fields.{and_then}
use Rattle.reader.specs.Statements.{Stmt}
use Rattle.reader.specs.Lines.{Line, ended, said, line_at}
use Rattle.reader.specs.Scan.{with_one, keeps, before, list_by, statements_from, counts_of}
use Rattle.reader.specs.declared.pieces.Counts.{Counts}
use Rattle.reader.proofs.Forward.{end_of, enough, line_after}

counts_of_before : (C : Counts) (s : Stmt) (r : Result (List Stmt) TextError) → counts_of C (before s r) ≡ counts_of (with_one C s) r
counts_of_before C s (Ok ss) = refl
counts_of_before C s (Err e) = refl

module _ (C : Counts) (text : List ℕ) (at : ℕ) where
  -- what the statements from a place on come to
  abbrev pub left : Result Counts TextError
  left = counts_of C (statements_from (length text) C text at)

  by_line : Line → Result (List Stmt) TextError
  by_line = list_by (λ D b. statements_from (length text) D text b) C text at

  turn : left ≡ counts_of C (and_then (line_at text at) by_line)
  unfolding statements_from by_line
  turn = ap (counts_of C) (sym (enough (length text) (suc (length text)) C text at (omega arith) (omega arith)))

  here : (l : Result Line TextError) → l ≡ line_at text at → left ≡ counts_of C (and_then l by_line)
  here l e = turn ∙ ap (λ r. counts_of C (and_then r by_line)) (sym e)

  pub no_line : (x : TextError) → Err x ≡ line_at text at → left ≡ Err x
  no_line x e = here (Err x) e

  module _ (s : Stmt) (next : ℕ) (e : Ok (said s next) ≡ line_at text at) where
    pub one_more : keeps (with_one C s) ≡ true → left ≡ counts_of (with_one C s) (statements_from (length text) (with_one C s) text next)
    unfolding by_line
    one_more k = here (Ok (said s next)) e ∙ simp k (counts_of_before C s (statements_from (length text) (with_one C s) text next))

    pub too_many : keeps (with_one C s) ≡ false → left ≡ Err (OverLimit at)
    unfolding by_line
    too_many k = here (Ok (said s next)) e ∙ simp k refl

    pub further : at < next
    unfolding end_of
    further = let h = IfOk-at_ok (λ l. at + 1 ≤ end_of l) (sym e) (line_after text at) in omega arith

  module _ (next : ℕ) (e : Ok (ended next) ≡ line_at text at) where
    pub no_more : next ≡ length text → left ≡ Ok C
    unfolding by_line
    no_more h = here (Ok (ended next)) e ∙ grind (arith, nat_tests)

    pub not_the_end : next ≢ length text → left ≡ Err (Malformed next)
    unfolding by_line
    not_the_end h = here (Ok (ended next)) e ∙ grind (arith, nat_tests)

pub ruleset line_steps = (no_line, one_more, further, no_more, not_the_end)
