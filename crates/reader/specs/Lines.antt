-- One line of a text: a statement or the end.
use Rattle.std.specs.Prelude.{ℕ, ◌+◌, ◌-◌, Bool, cond, not, ◌||◌, List, map, length, take, drop, pos, negsuc, Ok, Err, Result, ◌==◌, nat_lt, slice_index, unsigned_abs}
use Rattle.std.specs.List.{prefix_len}
use Rattle.book.specs.declared.kind.Kind.{Kind}
use Rattle.book.specs.declared.kind.NoSuchKind.{NoSuchKind}
use Rattle.book.specs.Encoding.{kind_told}
use Rattle.aspif.specs.declared.error.TextError.{TextError}
use Rattle.aspif.specs.declared.error.TextError.TheVariants.{Malformed, Unsupported, UnexpectedEnd}
use Rattle.reader.specs.Fields.{and_then, Field, field_at}
use Rattle.reader.specs.Rows.{count_at, Row, row_at}
use Rattle.reader.specs.Statements.{Stmt, rule, output, assumption, skipped}
use Rattle.reader.specs.declared.pieces.After.TheVariants.{Space, ByKind}
use Rattle.reader.specs.declared.pieces.Items.{Items}
use Rattle.reader.specs.declared.pieces.Items.TheVariants as items
use Rattle.reader.specs.declared.pieces.Count.{Count}
use Rattle.reader.specs.declared.pieces.Count.TheVariants as count

-- a count, and then so many numbers
unfoldable pub counted_at : Count → Items → List ℕ → ℕ → Result Row TextError
counted_at c i text at = and_then (count_at c text at) (λ n. row_at i n.count text n.next)

-- Rules.

-- the kind of a rule, and where the text goes on after it
pub record Headed : Type 0 where
  pub kind : Kind
  pub next : ℕ

abbrev pub headed_to : Kind → ℕ → Headed
headed_to k next = record { kind = k; next = next }

abbrev pub headed_by : ℕ → ℕ → Result Kind NoSuchKind → Result Headed TextError
headed_by at next (Ok k) = Ok (headed_to k next)
headed_by at next (Err e) = Err (Malformed at)

abbrev pub head_judged : ℕ → Field → Result Headed TextError
head_judged at f = headed_by at f.next (kind_told f.value)

unfoldable pub head_type_at : List ℕ → ℕ → Result Headed TextError
head_type_at text at = and_then (field_at Space text at) (head_judged at)

-- the body type 0; there is a type 1, and we do not read it
abbrev pub body_judged : ℕ → Field → Result ℕ TextError
body_judged at f = elim f.value [
  | pos n ↦ cond (n == 0) (Ok f.next) (cond (n == 1) (Err (Unsupported at)) (Err (Malformed at)))
  | negsuc n ↦ Err (Malformed at)
]

unfoldable pub body_type_at : List ℕ → ℕ → Result ℕ TextError
body_type_at text at = and_then (field_at Space text at) (body_judged at)

-- a line says a statement or ends the text; both with where the text goes on
pub data Line : Type 0 where
  ended : ℕ → Line
  said : Stmt → ℕ → Line

abbrev pub rule_of : Kind → Row → Row → Result Line TextError
rule_of k heads body = Ok (said (rule (record { kind = k; head = map unsigned_abs heads.values; body = body.values })) body.next)

unfoldable pub rule_at : List ℕ → ℕ → Result Line TextError
rule_at text at =
    and_then (head_type_at text at) (λ h.
    and_then (counted_at (count.Heads h.kind) items.Heads text h.next) (λ heads.
    and_then (body_type_at text heads.next) (λ next.
    and_then (counted_at count.Literals items.Literals text next) (rule_of h.kind heads))))

-- Outputs: the bytes of the name are taken as they are, and a space has to stand after them.

abbrev pub name_end_at : List ℕ → ℕ → Result ℕ TextError
name_end_at text end = cond (nat_lt end (length text)) (cond (slice_index text end == 32) (Ok (end + 1)) (Err (Malformed end))) (Err (UnexpectedEnd (length text)))

unfoldable pub output_at : List ℕ → ℕ → Result Line TextError
output_at text at =
    and_then (count_at count.Name text at) (λ n.
    and_then (name_end_at text (n.next + n.count)) (λ next.
    and_then (counted_at count.Literals items.Literals text next) (λ r.
    Ok (said (output n.next (take n.count (drop n.next text)) r.values) r.next))))

unfoldable pub assumption_at : List ℕ → ℕ → Result Line TextError
assumption_at text at = and_then (counted_at count.Assumed items.Literals text at) (λ r. Ok (said (assumption r.values) r.next))

-- Statements that are passed over, from the byte after their kind to the newline.

abbrev pub in_line : ℕ → Bool
in_line b = not (b == 10)

abbrev pub rest_of : List ℕ → ℕ → ℕ
rest_of text at = prefix_len in_line (drop at text)

unfoldable pub skipped_at : ℕ → List ℕ → ℕ → Result Line TextError
skipped_at kind text at =
    cond (nat_lt (at + rest_of text at) (length text))
    (Ok (said (skipped kind (take (rest_of text at) (drop at text))) (at + rest_of text at + 1)))
    (Err (UnexpectedEnd (length text)))

-- the kinds that are passed over
abbrev pub passed_over : ℕ → Bool
passed_over n = n == 2 || (n == 3 || (n == 7 || n == 10))

abbrev pub by_kind : List ℕ → ℕ → Field → Result Line TextError
by_kind text at f = elim f.value [
  | pos n ↦
      cond (n == 0) (Ok (ended f.next))
      (cond (n == 1) (rule_at text f.next)
      (cond (n == 4) (output_at text f.next)
      (cond (n == 6) (assumption_at text f.next)
      (cond (passed_over n) (skipped_at n text (f.next - 1))
      (Err (Unsupported at))))))
  | negsuc n ↦ Err (Malformed at)
]

-- the line at a place of the text
unfoldable pub line_at : List ℕ → ℕ → Result Line TextError
line_at text at = and_then (field_at ByKind text at) (by_kind text at)
