-- The law of a list of facts: it is accepted exactly where its facts keep the limits, and so exactly where the book made
-- of it has those facts.
use Rattle.std.specs.Prelude.{◌≡◌, ℕ, List, Ok}
use Rattle.book.specs.Rules.{Lawful}
use Rattle.book.specs.Facts.{fact_rules, facts_verdict, facts_book}

pub record FactsFaithful (n : ℕ) (facts : List ℕ) : Type 0 where
  pub spelled : facts_verdict n facts ≡ Ok tt → facts_book n facts ≡ fact_rules n facts
  pub kept : facts_book n facts ≡ fact_rules n facts → facts_verdict n facts ≡ Ok tt
  pub lawful : Lawful (fact_rules n facts) → facts_verdict n facts ≡ Ok tt
