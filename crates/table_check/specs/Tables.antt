-- A table of facts: for each place of a program what is known there, or nothing.
use Rattle.std.specs.Prelude.{ℕ, List, Option, Some, None, map, option_map, slice_get}
use Rattle.facts.specs.domain.Rows.{Row, row_view}
use Rattle.facts.specs.declared.domain.row.Row.{Row as CodeRow}
use Rattle.table_check.specs.declared.table.Table.{Table as CodeTable}

abbrev pub Table : Type 0
Table = List (Option Row)

-- the code's
abbrev pub rows_view : List (Option CodeRow) → Table
rows_view rows = map (option_map row_view) rows

abbrev pub table_view : CodeTable → Table
table_view t = rows_view t.rows.items

-- the row of a place, if the table has one there
abbrev pub some_row : Option (Option Row) → Option Row
some_row None = None
some_row (Some row) = row

abbrev pub row_of : Table → ℕ → Option Row
row_of t place = some_row (slice_get t place)
