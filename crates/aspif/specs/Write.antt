-- What writing a book answers, and what it leaves in the buffer.
use Rattle.std.specs.Prelude.{ℕ, Bool, cond, ◌||◌, List, ◌++◌, length, drop, is_ok, Ok, Err, Result, nat_lt}
use Rattle.book.specs.Rules.{Rules}
use Rattle.book.specs.Encoding.{encode}
use Rattle.aspif.specs.Texts.{text_of}
use Rattle.aspif.specs.declared.error.TextError.{TextError}
use Rattle.aspif.specs.declared.error.TextError.TheVariants.{OverLimit, TooShort}

-- more bytes, or more integers in all rules, than a text may have
abbrev pub over_limit : Rules → Bool
over_limit R = nat_lt 65536 (length (text_of R)) || nat_lt 16384 (length (encode R.rules))

-- how many bytes the text has
abbrev pub write_answer : Rules → ℕ → Result ℕ TextError
write_answer R room = cond (over_limit R) (Err (OverLimit 0)) (cond (nat_lt room (length (text_of R))) (Err TooShort) (Ok (length (text_of R))))

-- the text from the front on, and then what was there before; after a refusal all is as it was
abbrev pub write_into : Rules → List ℕ → List ℕ
write_into R old = cond (is_ok (write_answer R (length old))) (text_of R ++ drop (length (text_of R)) old) old
