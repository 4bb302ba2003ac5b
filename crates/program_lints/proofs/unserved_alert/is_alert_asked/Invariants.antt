use Rattle.std.proofs.Common.{◌≡◌}
use Rattle.table_check.specs.Tables.{table_view}
use Rattle.program_lints.specs.Reached.{some_below, passes_at}
use Rattle.program_lints.specs.UnservedAlert.{asks_alert}
use Rattle.program_lints.proofs.unserved_alert.is_alert_asked.Given as goal

abbrev pub invariant-loop-place : goal.invariant-loop-place
invariant-loop-place l =
    l.is_asked ≡ some_below (passes_at asks_alert l.program (table_view l.table)) l.place
