use Rattle.table_check.specs.Tables.{rows_view}
use Rattle.fact_search.proofs.Ticks.Descending.{FitLast}
use Rattle.fact_search.proofs.ticking.forward_ticks.Given as goal

abbrev pub invariant-loop-done : goal.invariant-loop-done
invariant-loop-done l =
    FitLast l.board l.program (rows_view l.known.rows.items) l.lost l.ticks.items l.done
