-- The statements of a text, line by line.
use Rattle.std.proofs.Common.{◌≡◌, ℕ, zero, suc, true, List, [], ◌∷◌, is_ok, Ok, Err, Result, sym, refl, ap, ◌∙◌}
use Rattle.aspif.specs.declared.error.TextError.{TextError}
use Rattle.reader.specs.Fields.{and_then}
use Rattle.reader.specs.Statements.{Stmt}
use Rattle.reader.specs.Lines.{Line, ended, said, line_at}
use Rattle.reader.specs.Scan.{before}
use Rattle.reader.specs.Fill.{said_by, said_from, listed}

ok_rest : (s : Stmt) (r : Result (List Stmt) TextError) → is_ok (before s r) ≡ true → is_ok r ≡ true
ok_rest s (Ok ss) h = refl
ok_rest s (Err e) h = h

more_by : (k m : ℕ → Result (List Stmt) TextError) → ((at : ℕ) → is_ok (k at) ≡ true → m at ≡ k at) → (l : Result Line TextError) → is_ok (and_then l (said_by k)) ≡ true → and_then l (said_by m) ≡ and_then l (said_by k)
more_by k m h (Ok (ended e)) o = refl
more_by k m h (Ok (said s e)) o = ap (before s) (h e (ok_rest s (k e) o))
more_by k m h (Err x) o = refl

-- with a line more to spare, the same statements are said
said_more : (n : ℕ) (text : List ℕ) (at : ℕ) → is_ok (said_from n text at) ≡ true → said_from (suc n) text at ≡ said_from n text at
unfolding said_from
said_more zero text at o = absurd cc
said_more (suc n) text at o = more_by (said_from n text) (said_from (suc n) text) (said_more n text) (line_at text at) o

-- after a line that says a statement
pub record SaysOn (n : ℕ) (text : List ℕ) (at : ℕ) (s : Stmt) (next : ℕ) : Type 0 where
  pub reads : is_ok (said_from n text next) ≡ true
  pub list : listed (said_from n text at) ≡ s ∷ listed (said_from n text next)

first_listed : (s : Stmt) (r q : Result (List Stmt) TextError) → is_ok (before s r) ≡ true → q ≡ r → listed (before s r) ≡ s ∷ listed q
first_listed s (Ok ss) q o e = ap (λ p. s ∷ listed p) (sym e)
first_listed s (Err x) q o e = absurd cc

pub says_on : (n : ℕ) (text : List ℕ) (at : ℕ) (s : Stmt) (next : ℕ) → Ok (said s next) ≡ line_at text at → is_ok (said_from n text at) ≡ true → SaysOn n text at s next
unfolding said_from
says_on zero text at s next e o = absurd cc
says_on (suc n) text at s next e o =
    let here = ap (λ l. and_then l (said_by (said_from n text))) e in
    let ok = ap is_ok here ∙ o in
    let rest = ok_rest s (said_from n text next) ok in
    let more = said_more n text next rest in
    record {
      reads = ap is_ok more ∙ rest;
      list = sym (ap listed here) ∙ first_listed s (said_from n text next) (said_from (suc n) text next) ok more;
    }

-- at the closing line nothing is left
pub says_end : (n : ℕ) (text : List ℕ) (at next : ℕ) → Ok (ended next) ≡ line_at text at → listed (said_from n text at) ≡ []
unfolding said_from
says_end zero text at next e = refl
says_end (suc n) text at next e = sym (ap (λ l. listed (and_then l (said_by (said_from n text)))) e)

pub says_none : (n : ℕ) (text : List ℕ) (at : ℕ) (x : TextError) → Err x ≡ line_at text at → listed (said_from n text at) ≡ []
unfolding said_from
says_none zero text at x e = refl
says_none (suc n) text at x e = sym (ap (λ l. listed (and_then l (said_by (said_from n text)))) e)
