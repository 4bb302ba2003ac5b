use Rattle.table_check.specs.Tables.{table_view}
use Rattle.program_lints.specs.ProtectLeft.{writes_protect}
use Rattle.program_lints.specs.Reached.{passes_at}
use Rattle.program_lints.proofs.Below.{none_below, still_below, next_below}
use Rattle.program_lints.proofs.protect_left.is_protect_written.Goals.{then-is_written}
use Rattle.program_lints.proofs.protect_left.is_protect_written.Goals.{else-is_written}
use Rattle.program_lints.proofs.protect_left.is_protect_written.Goals as goal

pub loop-place-init : goal.loop-place-init
loop-place-init c =
    none_below (passes_at (writes_protect c.args.target) c.args.program.now
    (table_view c.args.table.now))

pub loop-place-preserved : goal.loop-place-preserved
loop-place-preserved c =
    let test = passes_at (writes_protect c.args.target) c.args.program.now
    (table_view c.args.table.now) in
    elim c.if-is_written.branch [
      | then-is_written w ↦
          still_below test c.loop-place.place c.loop-place.is_written
          c.writes_protect_at-is_here.result c.if-is_written.is_written c.loop-place.invariant
          c.writes_protect_at-is_here.ensures w.if-is_written.true w.is_written-is
      | else-is_written w ↦
          next_below test c.loop-place.place c.loop-place.is_written
          c.writes_protect_at-is_here.result c.if-is_written.is_written c.loop-place.invariant
          c.writes_protect_at-is_here.ensures w.if-is_written.false w.is_written-is
    ]
