-- Pieces counted one after another are as one piece.
use Rattle.std.specs.Prelude.{◌≡◌, ℕ, ◌+◌, ◌≤◌, true, List, [], ◌++◌, length, nat_le}
use Rattle.std.proofs.Common.{length-append, refl, ap, ◌∙◌, arith}
use Rattle.std.proofs.lemmas.Bool.{leb-true, le-leb}
use Rattle.base.specs.declared.tally.Tally.{Tally}
use Rattle.base.specs.Sinks.{SinkLaws}
use Rattle.base.specs.Tallies.{within, counted}

within_from : (t : Tally) (bs : List ℕ) → t.size + length bs ≤ t.most → within t bs ≡ true
within_from t bs h = le-leb (t.size + length bs) t.most h

within_for : (t : Tally) (bs : List ℕ) → within t bs ≡ true → t.size + length bs ≤ t.most
within_for t bs e = leb-true (t.size + length bs) t.most e

longer : (n : ℕ) (bs cs : List ℕ) → n + length bs + length cs ≡ n + length (bs ++ cs)
longer n bs cs = omega (arith, length-append bs cs)

pub tally_laws : SinkLaws within counted
tally_laws = record {
  nothing = λ t. (within_from t [] (omega (arith, t.inside)), (omega arith, refl));
  first = λ t bs cs e. within_from t bs (omega (arith, within_for t (bs ++ cs) e, length-append bs cs));
  rest = λ t u bs cs h e. ap (λ n. nat_le (n + length cs) u.most) e.0 ∙ ap (λ m. nat_le (t.size + length bs + length cs) m) e.1 ∙ ap (λ n. nat_le n t.most) (longer t.size bs cs);
  both = λ t u v bs cs e f. (omega (arith, e.0, f.0, length-append bs cs), f.1 ∙ e.1);
}
