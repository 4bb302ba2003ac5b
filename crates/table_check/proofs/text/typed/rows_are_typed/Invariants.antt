use Rattle.std.proofs.Common.{◌<◌, ℕ, slice_index_or, Option}
use Rattle.std.specs.Prelude.{IfSome}
use Rattle.facts.specs.domain.Rows.{Row}
use Rattle.table_check.specs.Tables.{rows_view}
use Rattle.table_check.specs.text.Writable.{IsTypedRow}
use Rattle.table_check.proofs.text.typed.rows_are_typed.Given as goal

abbrev pub invariant-loop-place : goal.invariant-loop-place
invariant-loop-place l =
    (k : ℕ) (d : Option Row) → k < l.place-index
    → IfSome (slice_index_or (rows_view l.rows) k d) IsTypedRow
