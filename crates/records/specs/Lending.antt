-- A table whose record is lent to be changed.
use Rattle.std.specs.Prelude.{ℕ}
use Rattle.std.specs.Vec.{with_item}
use Rattle.records.specs.declared.tables.Table.{Table}

-- the table with another record at an index
abbrev pub with_row : {R : Type 0} → Table R → ℕ → R → Table R
with_row t i w = record { rows = with_item t.rows i w }
