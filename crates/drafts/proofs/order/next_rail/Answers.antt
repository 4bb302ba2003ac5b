use Rattle.std.proofs.Common.{below_more}
use Rattle.drafts.proofs.order.next_rail.Goals as goal

pub loop-rail-preserved : goal.loop-rail-preserved
loop-rail-preserved c =
    below_more _ _ c.loop-rail.invariant (c.is_ready.ensures.waits c.if-is_ready.false)
