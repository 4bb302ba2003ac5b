use Rattle.std.proofs.Common.{length}
use Rattle.drafts.specs.Waiting.{waits_for}
use Rattle.drafts.specs.Missing.{EachIsHeldUp}
use Rattle.drafts.proofs.order.next_rail.Given as goal

-- those before this one that aren't placed wait
abbrev pub invariant-loop-rail : goal.invariant-loop-rail
invariant-loop-rail l =
    EachIsHeldUp (waits_for l.board l.plan.wishes.items)
    (length l.board.rails) l.placed l.rail
