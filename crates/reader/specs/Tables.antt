-- What a table of names holds.
use Rattle.std.specs.Prelude.{◌≡◌}
use Rattle.reader.specs.Fill.{NameLists, both}
use Rattle.reader.specs.declared.names.NameTable.{NameTable}

abbrev pub table : NameTable → NameLists
table t = both t.places.now t.lengths.now

-- its lists are the same ones of the caller's
pub record SameTable (t u : NameTable) : Type 0 where
  pub places : u.places.ghost_name ≡ t.places.ghost_name
  pub lengths : u.lengths.ghost_name ≡ t.lengths.ghost_name
