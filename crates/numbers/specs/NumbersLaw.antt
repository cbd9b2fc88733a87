-- The law of lists of numbers: they are accepted exactly where they are the encoding of rules that keep the limits,
-- and the book made of them then has those rules.
use Rattle.std.specs.Prelude.{◌≡◌, ℕ, ◌+◌, ◌<◌, ◌≤◌, length, Ok, slice_index}
use Rattle.book.specs.Rules.{Rules, Lawful}
use Rattle.book.specs.Encoding.{encode, starts_from}
use Rattle.numbers.specs.Numbers.{numbers_verdict, numbers_book}
use Rattle.numbers.specs.declared.lists.Names.{Names}
use Rattle.numbers.specs.declared.lists.RuleLists.{RuleLists}

-- both name lists have an item for each atom, and each name that is not absent lies inside the text
pub record NamesInside (n : ℕ) (N : Names) : Type 0 where
  pub starts : length N.starts.now ≡ n
  pub lengths : length N.lengths.now ≡ n
  pub inside : (i : ℕ) → i < n → 0 < slice_index N.lengths.now i → slice_index N.starts.now i + slice_index N.lengths.now i ≤ length N.text.now

-- the lists are these rules as numbers, with names that fit them
pub record Encodes (R : Rules) (L : RuleLists) : Type 0 where
  pub atoms : L.atoms ≡ R.atoms
  pub integers : L.integers.now ≡ encode R.rules
  pub starts : L.starts.now ≡ starts_from 0 R.rules
  pub names : NamesInside L.atoms L.names

pub record Faithful (L : RuleLists) : Type 0 where
  pub decoded : numbers_verdict L ≡ Ok tt → Encodes (numbers_book L) L
  pub encoded : (R : Rules) → Lawful R → Encodes R L → (numbers_verdict L ≡ Ok tt) × (numbers_book L ≡ R)
