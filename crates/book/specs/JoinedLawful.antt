-- Joined books keep the limits where each of the two does: what the joined book owes as a book.
use Rattle.std.specs.Prelude.{ℕ, ◌+◌, ◌≤◌, max, List, length}
use Rattle.std.proofs.Common.{arith, length-append}
use Rattle.std.specs.List.{AllByRecursion as Each}
use Rattle.std.proofs.ByRecursion.{All-append, All-weaker}
use Rattle.std.proofs.lemmas.Bool.{cond_both, leb-true}
use Rattle.book.specs.Rules.{Rule, Rules, no_rules, Lawful, LawfulRule, Atom, Literal}
use Rattle.book.specs.Joined.{joined, fit_together, both}

-- a rule over some atoms is one over more atoms
wider : (m n : ℕ) → m ≤ n → (ρ : Rule) → LawfulRule m ρ → LawfulRule n ρ
wider m n h ρ l = record {
  heads = All-weaker (Atom m) (Atom n) (λ a p. (p.0, omega arith)) ρ.head l.heads;
  literals = All-weaker (Literal m) (Literal n) (λ z p. (p.0, omega arith)) ρ.body l.literals;
  short_head = l.short_head;
  short_body = l.short_body;
}

each_wider : (m n : ℕ) → m ≤ n → (ρs : List Rule) → Each (LawfulRule m) ρs → Each (LawfulRule n) ρs
each_wider m n h ρs l = All-weaker (LawfulRule m) (LawfulRule n) (wider m n h) ρs l

pub no_rules_lawful : Lawful no_rules
no_rules_lawful = record { few_atoms = omega arith; few_rules = omega arith; each = tt }

pub joined_lawful : (R S : Rules) → Lawful R → Lawful S → Lawful (joined R S)
joined_lawful R S l k =
    let n = max R.atoms S.atoms in
    cond_both (fit_together R S) (both R S) no_rules Lawful
    (λ e. record {
      few_atoms = omega (arith, l.few_atoms, k.few_atoms);
      few_rules = simp length-append (leb-true (length R.rules + length S.rules) 2048 e);
      each = All-append (LawfulRule n) R.rules S.rules (each_wider R.atoms n (omega arith) R.rules l.each) (each_wider S.atoms n (omega arith) S.rules k.each);
    })
    (λ _. no_rules_lawful)
