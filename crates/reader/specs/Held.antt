-- What the lists of the caller hold, before a text is read and after it.
use Rattle.std.specs.Prelude.{◌≡◌, ℕ, Bool, List, length, ℤ}
use Rattle.reader.specs.Statements.{Stmt}
use Rattle.reader.specs.Fill.{listed}
use Rattle.reader.specs.Read.{statements_of, read_answer, after_read, has_room, integers_after, starts_after, names_after, assumed_after}
use Rattle.reader.specs.declared.lists.Lists.{Lists}
use Rattle.reader.specs.declared.pieces.Counts.{Counts}

pub record Held : Type 0 where
  pub integers : List ℤ
  pub starts : List ℕ
  pub places : List ℕ
  pub lengths : List ℕ
  pub assumed : List ℤ

abbrev pub held : Lists → Held
held l = record { integers = l.integers.now; starts = l.starts.now; places = l.places.now; lengths = l.lengths.now; assumed = l.assumed.now }

-- the lists hold what is counted
abbrev pub has_room_in : Held → Counts → Bool
has_room_in H C = has_room C (length H.integers) (length H.starts) (length H.places) (length H.lengths) (length H.assumed)

-- each list after a text of these statements is read
abbrev pub held_after : List Stmt → Held → Held
held_after ss H = record {
  integers = integers_after ss H.integers;
  starts = starts_after ss H.starts;
  places = (names_after ss H.places H.lengths).starts;
  lengths = (names_after ss H.places H.lengths).lengths;
  assumed = assumed_after ss H.assumed;
}

-- they are the same lists of the caller's
pub record SameLists (l m : Lists) : Type 0 where
  pub integers : m.integers.ghost_name ≡ l.integers.ghost_name
  pub starts : m.starts.ghost_name ≡ l.starts.ghost_name
  pub places : m.places.ghost_name ≡ l.places.ghost_name
  pub lengths : m.lengths.ghost_name ≡ l.lengths.ghost_name
  pub assumed : m.assumed.ghost_name ≡ l.assumed.ghost_name

-- the lists after a text was read into them: filled from it, or as they were where it was refused
pub record ReadInto (text : List ℕ) (l m : Lists) : Type 0 where
  pub lists : held m ≡ after_read (read_answer text (has_room_in (held l))) (held_after (listed (statements_of text)) (held l)) (held l)
  pub same : SameLists l m
