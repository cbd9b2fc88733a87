-- One number of a text, and the byte that ends it.
use Rattle.std.specs.Prelude.{ℕ, ◌+◌, ◌-◌, ◌*◌, Bool, false, cond, not, ◌&&◌, ◌||◌, List, [], ◌∷◌, length, take, drop, ℤ, pos, negsuc, neg_ℤ, Some, None, Option, Ok, Err, Result, ◌==◌, nat_lt, slice_index}
use Rattle.std.specs.Char.{is_ascii_digit}
use Rattle.std.specs.List.{prefix_len}
use Rattle.aspif.specs.declared.error.TextError.{TextError}
use Rattle.aspif.specs.declared.error.TextError.TheVariants.{Malformed, UnexpectedEnd}
use Rattle.reader.specs.declared.pieces.After.{After}
use Rattle.reader.specs.declared.pieces.After.TheVariants.{Space, Newline, ByCount, ByKind}

-- a number of the text, the byte after it, and where the text goes on after that
pub record Field : Type 0 where
  pub value : ℤ
  pub ending : ℕ
  pub next : ℕ

-- goes on where there is a value, and else hands the refusal on
abbrev pub and_then : {X Y : Type 0} → Result X TextError → (X → Result Y TextError) → Result Y TextError
and_then (Ok x) next = next x
and_then (Err e) next = Err e

-- what a step gave and the place that it ended at, together as f tells them; a refusal as it is
abbrev pub stepped : {V X : Type 0} → (V → ℕ → X) → Result V TextError → ℕ → Result X TextError
stepped f (Ok v) next = Ok (f v next)
stepped f (Err e) next = Err e

-- the byte at a place of the text
abbrev pub byte_at : List ℕ → ℕ → Result ℕ TextError
byte_at text at = cond (nat_lt at (length text)) (Ok (slice_index text at)) (Err (UnexpectedEnd (length text)))

-- the number that digits write, after n
abbrev pub read_on : ℕ → List ℕ → ℕ
read_on n [] = n
read_on n (c ∷ cs) = read_on (n * 10 + (c - 48)) cs

abbrev pub signed_by : Bool → ℕ → ℤ
signed_by minus n = cond minus (neg_ℤ (pos n)) (pos n)

-- one to nine digits, no leading zero, and no zero after a minus
abbrev pub formed : Bool → List ℕ → Bool
formed minus ds = not (length ds == 0 || (nat_lt 9 (length ds) || (slice_index ds 0 == 48 && (minus || nat_lt 1 (length ds)))))

-- the number, where it is written so
abbrev pub number_of : Bool → List ℕ → Option ℤ
number_of minus ds = cond (formed minus ds) (Some (signed_by minus (read_on 0 ds))) None

abbrev pub is_zero : ℤ → Bool
is_zero (pos n) = n == 0
is_zero (negsuc n) = false

-- the kinds of statement that have more numbers
abbrev pub goes_on : ℤ → Bool
goes_on (pos n) = n == 1 || (n == 4 || n == 6)
goes_on (negsuc n) = false

-- the byte may stand after this number
abbrev pub follows : After → ℤ → ℕ → Bool
follows Space z b = b == 32
follows Newline z b = b == 10
follows ByCount z b = cond (is_zero z) (b == 10) (b == 32)
follows ByKind z b = (b == 32 && not (is_zero z)) || (b == 10 && not (goes_on z))

abbrev pub minus_at : List ℕ → ℕ → Bool
minus_at text at = slice_index text at == 45

abbrev pub digits_from : List ℕ → ℕ → ℕ
digits_from text at = cond (minus_at text at) (at + 1) at

abbrev pub digits_count : List ℕ → ℕ → ℕ
digits_count text from = prefix_len is_ascii_digit (drop from text)

-- the digits are judged together with the byte after them
abbrev pub judged : After → Bool → List ℕ → ℕ → ℕ → ℕ → Result Field TextError
judged after minus ds ending at end =
    cond (formed minus ds && follows after (signed_by minus (read_on 0 ds)) ending)
    (Ok (record { value = signed_by minus (read_on 0 ds); ending = ending; next = end + 1 }))
    (Err (Malformed at))

abbrev pub field_by : After → List ℕ → ℕ → ℕ → ℕ → Result Field TextError
field_by after text at from n =
    cond (nat_lt (from + n) (length text))
    (judged after (minus_at text at) (take n (drop from text)) (slice_index text (from + n)) at (from + n))
    (Err (UnexpectedEnd (length text)))

-- the number at a place of the text
unfoldable pub field_at : After → List ℕ → ℕ → Result Field TextError
field_at after text at = field_by after text at (digits_from text at) (digits_count text (digits_from text at))

-- a number that was read up to a place, with the byte before that place
abbrev pub field_to : List ℕ → ℤ → ℕ → Field
field_to text z next = record { value = z; ending = slice_index text (next - 1); next = next }
