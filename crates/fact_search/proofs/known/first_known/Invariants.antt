use Rattle.table_check.specs.Tables.{rows_view}
use Rattle.fact_search.proofs.Steps.First.{IsFirst}
use Rattle.fact_search.proofs.known.first_known.Given as goal

abbrev pub invariant-loop-place : goal.invariant-loop-place
invariant-loop-place l = IsFirst l.board (rows_view l.rows.items) l.changed.items l._place
