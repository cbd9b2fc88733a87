-- Counts, and rows of numbers.
use Rattle.std.specs.Prelude.{ℕ, zero, suc, Bool, cond, List, [], ◌∷◌, ℤ, pos, negsuc, Ok, Err, Result, nat_lt}
use Rattle.book.specs.Rules.{head_limit}
use Rattle.book.specs.declared.kind.Kind.{Kind}
use Rattle.book.specs.declared.kind.Kind.TheVariants.{Plain, Choice}
use Rattle.numbers.specs.Numbers.{within, is_literal}
use Rattle.aspif.specs.declared.error.TextError.{TextError}
use Rattle.aspif.specs.declared.error.TextError.TheVariants.{Malformed, DisjunctiveHead, UnknownAtom, OverLimit}
use Rattle.reader.specs.Fields.{and_then, Field, field_at}
use Rattle.reader.specs.declared.pieces.After.{After}
use Rattle.reader.specs.declared.pieces.After.TheVariants.{Space, Newline, ByCount}
use Rattle.reader.specs.declared.pieces.Items.{Items}
use Rattle.reader.specs.declared.pieces.Items.TheVariants as items
use Rattle.reader.specs.declared.pieces.Count.{Count}
use Rattle.reader.specs.declared.pieces.Count.TheVariants as count

-- the byte that has to stand after a count
abbrev pub after_count : Count → After
after_count (count.Heads k) = Space
after_count count.Name = Space
after_count count.Literals = ByCount
after_count count.Assumed = ByCount

-- the greatest count; no number of nine digits is too many assumed literals on one line
abbrev pub count_limit : Count → ℕ
count_limit (count.Heads k) = head_limit k
count_limit count.Name = 255
count_limit count.Literals = 255
count_limit count.Assumed = 999999999

abbrev head_fault : Kind → ℕ → TextError
head_fault Plain at = DisjunctiveHead at
head_fault Choice at = OverLimit at

-- the refusal of a greater one
abbrev pub count_fault : Count → ℕ → TextError
count_fault (count.Heads k) at = head_fault k at
count_fault count.Name at = OverLimit at
count_fault count.Literals at = OverLimit at
count_fault count.Assumed at = OverLimit at

-- a count, and where the text goes on after it
pub record Counted : Type 0 where
  pub count : ℕ
  pub next : ℕ

abbrev pub counted_to : ℕ → ℕ → Counted
counted_to n next = record { count = n; next = next }

abbrev pub count_judged : Count → ℕ → Field → Result Counted TextError
count_judged c at f = elim f.value [
  | pos n ↦ cond (nat_lt (count_limit c) n) (Err (count_fault c at)) (Ok (record { count = n; next = f.next }))
  | negsuc n ↦ Err (Malformed at)
]

unfoldable pub count_at : Count → List ℕ → ℕ → Result Counted TextError
count_at c text at = and_then (field_at (after_count c) text at) (count_judged c at)

-- one number of a row, with so many more behind it

abbrev pub allowed : Items → ℤ → Bool
allowed items.Heads z = within 1 1024 z
allowed items.Literals z = is_literal 1024 z

abbrev pub after_last : Items → After
after_last items.Heads = Space
after_last items.Literals = Newline

abbrev pub after_item : Items → ℕ → After
after_item i zero = after_last i
after_item i (suc n) = Space

unfoldable pub item_at : Items → ℕ → List ℕ → ℕ → Result Field TextError
item_at i more text at = and_then (field_at (after_item i more) text at) (λ f. cond (allowed i f.value) (Ok f) (Err (UnknownAtom at)))

-- so many numbers one after another, and where the text goes on after them
pub record Row : Type 0 where
  pub values : List ℤ
  pub next : ℕ

abbrev pub before : ℤ → Result Row TextError → Result Row TextError
before z (Ok r) = Ok (record { values = z ∷ r.values; next = r.next })
before z (Err e) = Err e

unfoldable pub row_at : Items → ℕ → List ℕ → ℕ → Result Row TextError
row_at i zero text at = Ok (record { values = []; next = at })
row_at i (suc n) text at = and_then (item_at i n text at) (λ f. before f.value (row_at i n text f.next))

abbrev pub row_end : Result Row TextError → Result ℕ TextError
row_end (Ok r) = Ok r.next
row_end (Err e) = Err e

abbrev pub row_values : Result Row TextError → List ℤ
row_values (Ok r) = r.values
row_values (Err e) = []
