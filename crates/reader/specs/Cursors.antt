-- What one step of a cursor gives, and where it stands after it.
use Rattle.std.specs.Prelude.{◌≡◌, ℕ, List, Result}
use Rattle.aspif.specs.declared.error.TextError.{TextError}
use Rattle.reader.specs.Fields.{stepped}
use Rattle.reader.specs.declared.cursor.Cursor.{Cursor}

-- what is read from the place where the cursor stood, as f tells it of the answer and of the place after; the text stays
pub record Reads {V X : Type 0} (f : V → ℕ → X) (read : List ℕ → ℕ → Result X TextError) (before : Cursor) (answer : Result V TextError) (after : Cursor) : Type 0 where
  pub tells : stepped f answer after.at ≡ read before.text.now before.at
  pub same_text : after.text ≡ before.text
