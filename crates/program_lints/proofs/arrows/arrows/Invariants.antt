use Rattle.std.proofs.Common.{◌<◌, ℕ}
use Rattle.table_check.specs.Tables.{table_view}
use Rattle.program_lints.specs.Flows.{HasEdges}
use Rattle.program_lints.proofs.arrows.arrows.Given as goal

abbrev pub invariant-loop-place : goal.invariant-loop-place
invariant-loop-place l =
    (k : ℕ) → k < l.place → HasEdges l.board l.program (table_view l.table) l.arrows.items k
