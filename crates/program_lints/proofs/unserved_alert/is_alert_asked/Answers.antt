use Rattle.table_check.specs.Tables.{table_view}
use Rattle.program_lints.specs.Reached.{passes_at}
use Rattle.program_lints.specs.UnservedAlert.{asks_alert}
use Rattle.program_lints.proofs.Below.{none_below, still_below, next_below}
use Rattle.program_lints.proofs.unserved_alert.is_alert_asked.Goals.{then-is_asked, else-is_asked}
use Rattle.program_lints.proofs.unserved_alert.is_alert_asked.Goals as goal

pub loop-place-init : goal.loop-place-init
loop-place-init c =
    none_below (passes_at asks_alert c.args.program.now (table_view c.args.table.now))

pub loop-place-preserved : goal.loop-place-preserved
loop-place-preserved c =
    let test = passes_at asks_alert c.args.program.now (table_view c.args.table.now) in
    elim c.if-is_asked.branch [
      | then-is_asked w ↦
          still_below test c.loop-place.place c.loop-place.is_asked c.asks_alert_at-is_here.result
          c.if-is_asked.is_asked c.loop-place.invariant c.asks_alert_at-is_here.ensures
          w.if-is_asked.true w.is_asked-is
      | else-is_asked w ↦
          next_below test c.loop-place.place c.loop-place.is_asked c.asks_alert_at-is_here.result
          c.if-is_asked.is_asked c.loop-place.invariant c.asks_alert_at-is_here.ensures
          w.if-is_asked.false w.is_asked-is
    ]
