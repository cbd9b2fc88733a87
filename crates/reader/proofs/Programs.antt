-- A text is read without refusal exactly where it is the program of some statements.
use Rattle.std.proofs.Common.{◌≡◌, ℕ, zero, suc, ◌+◌, ◌<◌, ◌≤◌, true, eqb, ltb, List, [], ◌∷◌, ◌++◌, length, drop, IfOk, Ok, Err, Result, sym, refl, ap, ◌∙◌, subst, append_assoc, arith, length-append, length-drop}
use Rattle.std.specs.List.{AllByRecursion as Each}
use Rattle.std.proofs.lemmas.List.{drop_all, append-nil}
use Rattle.std.proofs.lemmas.Bool.{and_parts, and_from, cond-true, cond_both, eq-eqb, eqb-true, ltb-false}
use Rattle.std.proofs.lemmas.Result.{IfOk-weaker}
use Rattle.aspif.specs.Texts.{heading, closing}
use Rattle.aspif.specs.declared.error.TextError.{TextError}
use Rattle.aspif.specs.declared.error.TextError.TheVariants.{Malformed, OverLimit, WrongHeading}
use Rattle.reader.specs.Fields.{and_then}
use Rattle.reader.specs.Statements.{Stmt, rule, output, assumption, skipped, assumed_in}
use Rattle.reader.specs.Lines.{Line, ended, said, line_at}
use Rattle.reader.specs.Scan.{nothing, with_one, with_all, keeps, before, list_by, statements_from}
use Rattle.reader.specs.Read.{begins, statements_of}
use Rattle.reader.specs.ReadLaw.{ReadsExactlyPrograms}
use Rattle.reader.specs.Program.{line_of, lines_of, Fits, WithinLimits, AllPlaced, Program}
use Rattle.reader.specs.declared.pieces.Counts.{Counts}
use Rattle.reader.proofs.Forward.{then_made}
use Rattle.reader.proofs.LineBytes.{rule_size, output_size, assumption_size, skipped_size}
use Rattle.reader.proofs.Headings.{headed}
use Rattle.reader.proofs.LinesRead.{drop_after, closing_read, line_read}
use Rattle.reader.proofs.LinesSaid.{Stands, LineSays, line_says}
use Rattle.reader.proofs.Together.{counted_together, grown, rules_kept, integers_kept, assumed_kept, kept_before, kept_from}

-- From a program to its statements.

module _ (text : List ℕ) where
  -- the text ends with the closing line
  ends_here : (at : ℕ) (xs : List ℕ) → drop at text ≡ xs → 0 < length xs → at + length xs ≡ length text
  ends_here at xs e some = omega (arith, length-drop at text, ap length e)

  few_assumed_lem : (C : Counts) (s : Stmt) (ss : List Stmt) → keeps (with_all C (s ∷ ss)) ≡ true → length (assumed_in s) ≤ 1024
  few_assumed_lem C s ss k = omega (arith, (grown (with_one C s) ss).assumed, assumed_kept (with_all C (s ∷ ss)) k)

  statements_read : (n : ℕ) (C : Counts) (at : ℕ) (ss : List Stmt) → length ss < n → drop at text ≡ lines_of ss ++ closing → Each Fits ss → AllPlaced at ss → keeps (with_all C ss) ≡ true → statements_from n C text at ≡ Ok ss
  unfolding statements_from lines_of closing
  statements_read zero C at ss few e fits placed k = absurd (omega arith)
  statements_read (suc n) C at [] few e fits placed k =
      let end = ends_here at closing e (omega arith) in
      ap (λ l. and_then l (list_by (λ D next. statements_from n D text next) C text at)) (closing_read text at [] e)
      ∙ cond-true (eqb (at + 2) (length text)) (Ok []) (Err (Malformed (at + 2))) (eq-eqb (at + 2) (length text) end)
  statements_read (suc n) C at (s ∷ ss) few e fits placed k =
      let next = at + length (line_of s) in
      let here = e ∙ append_assoc (line_of s) (lines_of ss) closing in
      let ih = statements_read n (with_one C s) next ss (omega arith) (drop_after text at (line_of s) (lines_of ss ++ closing) here) fits.1 placed.1 k in
      ap (λ l. and_then l (list_by (λ D b. statements_from n D text b) C text at)) (line_read text at s (lines_of ss ++ closing) here fits.0 (few_assumed_lem C s ss k) placed.0)
      ∙ cond-true (keeps (with_one C s)) (before s (statements_from n (with_one C s) text next)) (Err (OverLimit at)) (kept_before (with_one C s) ss k)
      ∙ ap (before s) ih

  -- From what is read to the program.

  record Lines (C : Counts) (at : ℕ) (ss : List Stmt) : Type 0 where
    written : drop at text ≡ lines_of ss ++ closing
    fits : Each Fits ss
    placed : AllPlaced at ss
    kept : keeps (with_all C ss) ≡ true

  before_lines : (C : Counts) (at : ℕ) (s : Stmt) (end : ℕ) (r : Result (List Stmt) TextError) → Stands text at s end → IfOk r (Lines (with_one C s) end) → IfOk (before s r) (Lines C at)
  unfolding lines_of
  before_lines C at s end (Ok ss) h l = record {
    written = h.bytes ∙ ap (line_of s ++◌) l.written ∙ sym (append_assoc (line_of s) (lines_of ss) closing);
    fits = (h.fits, l.fits);
    placed = (h.placed, subst (λ n. AllPlaced n ss) h.next l.placed);
    kept = l.kept;
  }
  before_lines C at s end (Err e) h l = tt

  module _ (next : Counts → ℕ → Result (List Stmt) TextError) (go : (D : Counts) (b : ℕ) → keeps D ≡ true → IfOk (next D b) (Lines D b)) (C : Counts) (at : ℕ) where
    list_lines : keeps C ≡ true → (l : Line) → LineSays text at l → IfOk (list_by next C text at l) (Lines C at)
    unfolding lines_of
    list_lines k (ended end) h = cond_both (eqb end (length text)) (Ok []) (Err (Malformed end)) (λ r. IfOk r (Lines C at))
        (λ t. let all : drop end text ≡ [] = drop_all end text (omega (arith, eqb-true end (length text) t)) in
        record { written = h.0 ∙ ap (closing ++◌) all ∙ append-nil closing; fits = tt; placed = tt; kept = k })
        (λ _. tt)
    list_lines k (said s end) h = cond_both (keeps (with_one C s)) (before s (next (with_one C s) end)) (Err (OverLimit at)) (λ r. IfOk r (Lines C at))
        (λ t. before_lines C at s end (next (with_one C s) end) h (go (with_one C s) end t))
        (λ _. tt)

  statements_say : (n : ℕ) (C : Counts) (at : ℕ) → keeps C ≡ true → IfOk (statements_from n C text at) (Lines C at)
  unfolding statements_from
  statements_say zero C at k = tt
  statements_say (suc n) C at k =
      then_made (LineSays text at) (Lines C at) (line_at text at) (list_by (λ D b. statements_from n D text b) C text at) (line_says text at)
      (list_lines (λ D b. statements_from n D text b) (λ D b. statements_say n D b) C at k)

-- The limits on what was counted are those on the statements.

limits_kept : (ss : List Stmt) → WithinLimits ss → keeps (with_all nothing ss) ≡ true
limits_kept ss w = let c = counted_together ss in kept_from (with_all nothing ss) (omega (arith, c.rules, w.few_rules)) (omega (arith, c.integers, w.few_integers)) (omega (arith, c.assumed, w.few_assumed))

kept_limits : (ss : List Stmt) → Each Fits ss → keeps (with_all nothing ss) ≡ true → WithinLimits ss
kept_limits ss fits k =
    let c = counted_together ss in
    let C = with_all nothing ss in
    record {
      each = fits;
      few_rules = omega (arith, c.rules, rules_kept C k);
      few_integers = omega (arith, c.integers, integers_kept C k);
      few_assumed = omega (arith, c.assumed, assumed_kept C k);
    }

-- Whole texts.

line_some : (s : Stmt) → 0 < length (line_of s)
line_some (rule ρ) = omega (arith, rule_size ρ)
line_some (output place name zs) = omega (arith, output_size place name zs)
line_some (assumption zs) = omega (arith, assumption_size zs)
line_some (skipped kind bytes) = omega (arith, skipped_size kind bytes)

lines_some : (ss : List Stmt) → length ss ≤ length (lines_of ss)
unfolding lines_of
lines_some [] = omega arith
lines_some (s ∷ ss) = omega (arith, line_some s, lines_some ss, length-append (line_of s) (lines_of ss))

begins_front : (xs ys : List ℕ) → begins xs (xs ++ ys) ≡ true
begins_front [] ys = refl
begins_front (x ∷ xs) ys = and_from (eqb x x) (begins xs (xs ++ ys)) (eq-eqb x x refl) (begins_front xs ys)

front_begins : (xs ys : List ℕ) → begins xs ys ≡ true → ys ≡ xs ++ drop (length xs) ys
front_begins [] ys h = refl
front_begins (x ∷ xs) [] h = absurd cc
front_begins (x ∷ xs) (y ∷ ys) h = let p = and_parts (eqb y x) (begins xs ys) h in ap (◌∷ ys) (eqb-true y x p.0) ∙ ap (x ∷◌) (front_begins xs ys p.1)

module _ (text : List ℕ) where
  program_read : (ss : List Stmt) → Program text ss → statements_of text ≡ Ok ss
  unfolding heading closing
  program_read ss p =
      let size : length text ≡ 10 + (length (lines_of ss) + 2) = ap length p.written ∙ omega (arith, length-append heading (lines_of ss ++ closing), length-append (lines_of ss) closing) in
      let lines : drop 10 text ≡ lines_of ss ++ closing = ap (drop 10) p.written in
      headed text p.short (sym (ap (begins heading) p.written ∙ begins_front heading (lines_of ss ++ closing)))
      ∙ statements_read text (length text) nothing 10 ss (omega (arith, size, lines_some ss)) lines p.limits.each p.placed (limits_kept ss p.limits)

  abbrev Programmed : Result (List Stmt) TextError → Type 0
  Programmed r = IfOk r (Program text)

  read_program : IfOk (statements_of text) (Program text)
  unfolding statements_of heading
  read_program =
      cond_both (ltb 65536 (length text)) (Err (OverLimit 0)) _ Programmed (λ _. tt)
      (λ small. cond_both (begins heading text) (statements_from (length text) nothing text 10) (Err WrongHeading) Programmed
      (λ b. IfOk-weaker (statements_from (length text) nothing text 10) (Lines text nothing 10) (Program text)
      (λ ss l. record {
        written = front_begins heading text b ∙ ap (heading ++◌) l.written;
        short = ltb-false 65536 (length text) small;
        limits = kept_limits ss l.fits l.kept;
        placed = l.placed;
      })
      (statements_say text (length text) nothing 10 refl))
      (λ _. tt))

  pub reads_exactly_programs : ReadsExactlyPrograms text
  reads_exactly_programs = record { programs_are_read = program_read; only_programs_are_read = λ ss e. subst Programmed e read_program }
