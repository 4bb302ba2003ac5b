use Rattle.std.specs.Prelude.{List, ℕ, All, map, take}
use Rattle.seq_program.specs.declared.instr.Instr.{Instr}
use Rattle.facts.specs.transfer.Ways.{timed_view}
use Rattle.table_check.specs.checker.Breaches.{KeepsEdge}
use Rattle.table_check.specs.checker.Looking.{of_code}
use Rattle.table_check.specs.Tables.{rows_view}
use Rattle.table_check.proofs.Firsts.{Leaves}
use Rattle.table_check.proofs.Parts.{edges_from}
use Rattle.table_check.proofs.checker.leading.edges_breach.Given as goal

abbrev pub invariant-loop-index : goal.invariant-loop-index
invariant-loop-index l = record {
  leaves : (p : List Instr) (place : ℕ) → Leaves l.board p (rows_view l.rows)
      (of_code place l.edges) (edges_from place l.edges l.index);
  kept : All (KeepsEdge l.board (rows_view l.rows)) (take l.index (map timed_view l.edges));
}
