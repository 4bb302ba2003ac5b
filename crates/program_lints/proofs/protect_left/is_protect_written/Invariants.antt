use Rattle.std.proofs.Common.{◌≡◌}
use Rattle.table_check.specs.Tables.{table_view}
use Rattle.program_lints.specs.ProtectLeft.{writes_protect}
use Rattle.program_lints.specs.Reached.{some_below, passes_at}
use Rattle.program_lints.proofs.protect_left.is_protect_written.Given as goal

abbrev pub invariant-loop-place : goal.invariant-loop-place
invariant-loop-place l =
    l.is_written
    ≡ some_below (passes_at (writes_protect l.target) l.program (table_view l.table)) l.place
