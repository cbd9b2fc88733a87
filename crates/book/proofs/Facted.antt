-- A list of facts is accepted exactly where its facts keep the limits, and then makes the book of those facts.
use Rattle.std.proofs.Common.{◌≡◌, ℕ, zero, suc, ◌<◌, ◌≤◌, true, not, ltb, List, [], ◌∷◌, map, length, get_or, is_ok, None, Ok, refl, ap, ◌∙◌, subst, arith}
use lib.ListN.{length-map}
use Rattle.std.specs.List.{slice_get, AllByRecursion as Each}
use Rattle.std.proofs.ByRecursion.{All-get_or}
use Rattle.std.proofs.lemmas.Bool.{and_from, cond_both, cond-true, cond-false, le-leb, le-ltb, lt-ltb}
use Rattle.base.proofs.Search.{none_found}
use Rattle.book.specs.Rules.{no_rules, Atom, LawfulRule, Lawful, body_literal}
use Rattle.book.specs.Facts.{fact_rule, fact_rules, sound_fact, after_facts, facts_verdict, facts_book}
use Rattle.book.specs.FactsLaw.{FactsFaithful}
use Rattle.book.specs.FactsLawful.{accepted_facts}
use Rattle.book.specs.JoinedLawful.{no_rules_lawful}

pub no_literal : (facts : List ℕ) (rule at : ℕ) → None ≡ body_literal (slice_get (map fact_rule facts) rule) at
no_literal [] rule at = refl
no_literal (a ∷ facts) zero at = refl
no_literal (a ∷ facts) (suc rule) at = no_literal facts rule at

each_atom : (n : ℕ) (facts : List ℕ) → Each (LawfulRule n) (map fact_rule facts) → Each (Atom n) facts
each_atom n [] l = tt
each_atom n (a ∷ facts) l = (l.0.heads.0, each_atom n facts l.1)

module _ (n : ℕ) (facts : List ℕ) where
  sound : Lawful (fact_rules n facts) → (i : ℕ) → i < length facts → sound_fact n facts i ≡ true
  sound l i h =
      let few : length facts ≤ 2048 = simp length-map at l.few_rules in
      let a = All-get_or (Atom n) facts i 0 h (each_atom n facts l.each) in
      and_from _ _ (lt-ltb i 2048 (omega arith)) (and_from _ _ (le-leb 1 (get_or facts i 0) a.0) (le-leb (get_or facts i 0) n a.1))

  lawful_accepted : Lawful (fact_rules n facts) → facts_verdict n facts ≡ Ok tt
  lawful_accepted l =
      cond-false (ltb 1024 n) _ _ (le-ltb 1024 n l.few_atoms)
      ∙ ap after_facts (none_found (λ i. not (sound_fact n facts i)) (length facts) (λ i h. ap not (sound l i h)))

  book_lawful : Lawful (facts_book n facts)
  book_lawful = cond_both (is_ok (facts_verdict n facts)) (fact_rules n facts) no_rules Lawful (accepted_facts n facts) (λ _. no_rules_lawful)

  pub facts_faithful : FactsFaithful n facts
  facts_faithful = record {
    spelled = λ ok. cond-true (is_ok (facts_verdict n facts)) _ _ (ap is_ok ok);
    kept = λ e. lawful_accepted (subst Lawful e book_lawful);
    lawful = lawful_accepted;
  }
