use Rattle.table_check.specs.Tables.{table_view}
use Rattle.program_lints.specs.Lints.{AreLintsBelow}
use Rattle.program_lints.proofs.lints.program_lints.Given as goal

abbrev pub invariant-loop-place : goal.invariant-loop-place
invariant-loop-place l =
    AreLintsBelow l.board l.program (table_view l.table) l.states l.place l.lints.items
