use Rattle.std.proofs.Common.{◌-◌, length}
use Rattle.drafts.specs.Waiting.{waits_for}
use Rattle.drafts.proofs.Placing.{IsGrowing}
use Rattle.drafts.proofs.order.order_of.Given as goal

-- each rail so far is the next behind those before it, and none stands there twice
abbrev pub invariant-loop-rail : goal.invariant-loop-rail
invariant-loop-rail l =
    IsGrowing (waits_for l.board l.plan.wishes.items) (length l.board.rails) l.order.items

-- so many rails are left
abbrev pub decreases-loop-rail : goal.decreases-loop-rail
decreases-loop-rail l = length l.board.rails - length l.order.items
