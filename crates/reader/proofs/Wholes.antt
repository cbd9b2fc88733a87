-- A text that is read: what its statements come to.
use Rattle.std.proofs.Common.{◌≡◌, ℕ, zero, suc, ◌+◌, Bool, true, false, cond, eqb, List, [], ◌∷◌, length, Ok, Err, Result, sym, refl, ap, ◌∙◌, add-zero, arith, length-append}
use Rattle.aspif.specs.declared.error.TextError.{TextError}
use Rattle.aspif.specs.declared.error.TextError.TheVariants.{Malformed, OverLimit}
use Rattle.book.specs.Rules.{Rule}
use Rattle.book.specs.Encoding.{encode_rule, encode, starts_from}
use Rattle.reader.specs.Fields.{and_then}
use Rattle.reader.specs.Statements.{Stmt, rules_in, assumed_in}
use Rattle.reader.specs.Lines.{Line, ended, said, line_at}
use Rattle.reader.specs.Scan.{with_one, with_all, keeps, before, list_by, statements_from}
use Rattle.reader.specs.Fill.{said_by, said_from, integers_in, parts_in, starts_in}
use Rattle.reader.specs.declared.pieces.Counts.{Counts}

pub starts_length : (start : ℕ) (ρs : List Rule) → length (starts_from start ρs) ≡ length ρs
starts_length start [] = refl
starts_length start (ρ ∷ ρs) = ap suc (starts_length (start + length (encode_rule ρ)) ρs)

-- the statements are all said, and come to no more than the limits
pub record Whole (C : Counts) (ss : List Stmt) (plain : Result (List Stmt) TextError) : Type 0 where
  pub plainly : plain ≡ Ok ss
  pub kept : keeps (with_all C ss) ≡ true

-- what is done was not refused
pub never : {X E P : Type 0} {x : X} {e : E} → ◌≡◌ {A = Result X E} (Err e) (Ok x) → P
never h = absurd cc

module _ (next : Counts → ℕ → Result (List Stmt) TextError) (plain : ℕ → Result (List Stmt) TextError) (go : (D : Counts) (b : ℕ) (ss : List Stmt) → keeps D ≡ true → next D b ≡ Ok ss → Whole D ss (plain b)) where
  said_whole : (C : Counts) (s : Stmt) (b : ℕ) (ss : List Stmt) (r : Result (List Stmt) TextError) → next (with_one C s) b ≡ r → keeps (with_one C s) ≡ true → before s r ≡ Ok ss → Whole C ss (before s (plain b))
  said_whole C s b ss (Ok rest) e k h =
      let w = go (with_one C s) b rest k e in
      let same : s ∷ rest ≡ ss = cc in
      record { plainly = ap (before s) w.plainly ∙ h; kept = ap (λ qs. keeps (with_all C qs)) (sym same) ∙ w.kept }
  said_whole C s b ss (Err x) e k h = never h

  by_test : (C : Counts) (at : ℕ) (s : Stmt) (b : ℕ) (ss : List Stmt) (t : Bool) → keeps (with_one C s) ≡ t → cond t (before s (next (with_one C s) b)) (Err (OverLimit at)) ≡ Ok ss → Whole C ss (before s (plain b))
  by_test C at s b ss true e h = said_whole C s b ss (next (with_one C s) b) refl e h
  by_test C at s b ss false e h = never h

  by_end : (C : Counts) (e : ℕ) (ss : List Stmt) (t : Bool) → keeps C ≡ true → cond t (Ok []) (Err (Malformed e)) ≡ Ok ss → Whole C ss (Ok [])
  by_end C e ss true k h = let same : [] ≡ ss = cc in record { plainly = h; kept = ap (λ qs. keeps (with_all C qs)) (sym same) ∙ k }
  by_end C e ss false k h = never h

  by_line : (C : Counts) (text : List ℕ) (at : ℕ) (ss : List Stmt) (l : Result Line TextError) → keeps C ≡ true → and_then l (list_by next C text at) ≡ Ok ss → Whole C ss (and_then l (said_by plain))
  by_line C text at ss (Ok (ended e)) k h = by_end C e ss (eqb e (length text)) k h
  by_line C text at ss (Ok (said s e)) k h = by_test C at s e ss (keeps (with_one C s)) refl h
  by_line C text at ss (Err x) k h = never h

pub whole : (n : ℕ) (C : Counts) (text : List ℕ) (at : ℕ) (ss : List Stmt) → keeps C ≡ true → statements_from n C text at ≡ Ok ss → Whole C ss (said_from n text at)
unfolding statements_from said_from
whole zero C text at ss k h = never h
whole (suc n) C text at ss k h =
    by_line (λ D b. statements_from n D text b) (said_from n text) (λ D b qs. whole n D text b qs) C text at ss (line_at text at) k h

-- the counts are the sizes of what the lists are filled with

pub integers_counted : (C : Counts) (ss : List Stmt) → (with_all C ss).integers ≡ C.integers + length (parts_in integers_in ss)
unfolding parts_in
integers_counted C [] = sym (add-zero C.integers)
integers_counted C (s ∷ ss) = integers_counted (with_one C s) ss ∙ omega (arith, length-append (encode (rules_in s)) (parts_in integers_in ss))

pub assumed_counted : (C : Counts) (ss : List Stmt) → (with_all C ss).assumed ≡ C.assumed + length (parts_in assumed_in ss)
unfolding parts_in
assumed_counted C [] = sym (add-zero C.assumed)
assumed_counted C (s ∷ ss) = assumed_counted (with_one C s) ss ∙ omega (arith, length-append (assumed_in s) (parts_in assumed_in ss))

pub rules_counted : (C : Counts) (start : ℕ) (ss : List Stmt) → (with_all C ss).rules ≡ C.rules + length (starts_in start ss)
unfolding starts_in
rules_counted C start [] = sym (add-zero C.rules)
rules_counted C start (s ∷ ss) =
    let rest = starts_in (start + length (encode (rules_in s))) ss in
    rules_counted (with_one C s) (start + length (encode (rules_in s))) ss ∙ omega (arith, length-append (starts_from start (rules_in s)) rest, starts_length start (rules_in s))
