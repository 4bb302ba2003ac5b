use Rattle.std.specs.Prelude.{List}
use Rattle.seq_program.specs.declared.instr.Instr.{Instr}
use Rattle.table_check.specs.Tables.{rows_view}
use Rattle.table_check.specs.checker.Obligations.{shapes}
use Rattle.table_check.proofs.Firsts.{Leaves}
use Rattle.table_check.proofs.Parts.{shapes_from}
use Rattle.table_check.proofs.checker.forming.shape_breach.Given as goal

abbrev pub invariant-loop-place : goal.invariant-loop-place
invariant-loop-place l = (p : List Instr)
    → Leaves l.board p (rows_view l.rows) (shapes 0 (rows_view l.rows))
    (shapes_from (rows_view l.rows) l.place)
