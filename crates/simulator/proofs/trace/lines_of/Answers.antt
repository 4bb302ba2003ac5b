use Rattle.simulator.proofs.StepLines.{line_more}
use Rattle.simulator.proofs.Taken.{take_more}
use Rattle.simulator.proofs.trace.lines_of.Goals as goal

pub loop-entry-preserved : goal.loop-entry-preserved
loop-entry-preserved c =
    let more = c.in_ok-push_line.ensures in
    rw (
      take_more c.args.entries.now c.loop-entry.entry-index c.entry-item.result
          c.loop-entry-test.true,
      ← c.entry-item.is,
      more.2,
    )
    (line_more _ _ _ more.0 c.loop-entry.invariant more.1)
