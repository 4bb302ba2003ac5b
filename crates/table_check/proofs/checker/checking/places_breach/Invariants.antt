use Rattle.table_check.specs.Tables.{rows_view}
use Rattle.table_check.specs.checker.Obligations.{of_places}
use Rattle.table_check.proofs.Firsts.{Leaves}
use Rattle.table_check.proofs.Parts.{places_from}
use Rattle.table_check.proofs.checker.checking.places_breach.Given as goal

abbrev pub invariant-loop-place : goal.invariant-loop-place
invariant-loop-place l =
    Leaves l.board l.program (rows_view l.rows)
    (of_places l.board 0 l.program (rows_view l.rows))
    (places_from l.board l.program (rows_view l.rows) l.place)
