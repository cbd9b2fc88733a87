-- A text and a buffer: how many bytes there are, if they are at most so many, and the text from the front on.
use Rattle.std.specs.Prelude.{ℕ, cond, List, ◌++◌, length, drop, Ok, Err, Result, Some, None, Option, nat_le, nat_lt}
use Rattle.base.specs.declared.short.TooShort.{TooShort}

abbrev pub size_within : List ℕ → ℕ → Option ℕ
size_within bs most = cond (nat_le (length bs) most) (Some (length bs)) None

-- how many bytes were put
abbrev pub front_answer : List ℕ → ℕ → Result ℕ TooShort
front_answer bs room = cond (nat_lt room (length bs)) (Err (record {})) (Ok (length bs))

-- the text, and then what was there before; all as it was where the text does not fit
abbrev pub front_into : List ℕ → List ℕ → List ℕ
front_into bs old = cond (nat_lt (length old) (length bs)) old (bs ++ drop (length bs) old)
