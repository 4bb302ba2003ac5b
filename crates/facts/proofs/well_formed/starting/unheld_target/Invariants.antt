use Rattle.facts.specs.domain.Rows.{row_view}
use Rattle.facts.specs.well_formed.Shapes.{EachBefore}
use Rattle.facts.specs.well_formed.Starts.{StartsAt}
use Rattle.facts.proofs.well_formed.starting.unheld_target.Given as goal

abbrev pub invariant-loop-index : goal.invariant-loop-index
invariant-loop-index l = EachBefore l.index l.board (StartsAt (row_view l.row))
