-- The line that tells a fault: a word, its number, its layer and both places.
use Rattle.std.specs.Prelude.{ℕ, cond, List, ◌++◌, length, drop, is_ok, Ok, Err, codes, decimal, Result, nat_lt}
use Rattle.sheet.specs.declared.error.SheetError.TheVariants.{TooShort}
use Rattle.report.specs.Faults.{refusal_of, layer_of}
use Rattle.report.specs.declared.fault.Fault.{Fault}
use Rattle.report.specs.declared.fault.Fault.TheVariants.{Sheet}
use Rattle.report.specs.declared.fault.Layer.{Layer}
use Rattle.report.specs.declared.fault.Layer.TheVariants as layer

-- after the one space before it: a number, and the word of a layer
unfoldable pub number : ℕ → List ℕ
number n = codes " " ++ decimal n

unfoldable pub word : Layer → List ℕ
word layer.Text = codes " text"
word layer.Book = codes " book"
word layer.Sheet = codes " sheet"

unfoldable pub opening : List ℕ
opening = codes "refusal"

unfoldable pub newline : List ℕ
newline = codes "\n"

-- both places, to the end of the line
unfoldable pub places_of : ℕ → ℕ → List ℕ
places_of first second = number first ++ (number second ++ newline)

abbrev pub told : Fault → List ℕ
told f = opening ++ (number (refusal_of f).number ++ (word (layer_of f) ++ places_of (refusal_of f).first (refusal_of f).second))

-- how many bytes the line has
abbrev pub tell_answer : Fault → ℕ → Result ℕ Fault
tell_answer f room = cond (nat_lt room (length (told f))) (Err (Sheet TooShort)) (Ok (length (told f)))

-- the line from the front on, and then what was there before; after a refusal all is as it was
abbrev pub tell_into : Fault → List ℕ → List ℕ
tell_into f old = cond (is_ok (tell_answer f (length old))) (told f ++ drop (length (told f)) old) old
