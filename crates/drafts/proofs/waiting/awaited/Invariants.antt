use Rattle.std.proofs.Common.{ℕ, ◌<◌, IsTrue}
use Rattle.drafts.specs.Waiting.{waits_for}
use Rattle.drafts.specs.Orders.{is_placed}
use Rattle.drafts.proofs.waiting.awaited.Given as goal

-- the rails before this one are placed, or it doesn't wait for them
abbrev pub invariant-loop-other : goal.invariant-loop-other
invariant-loop-other l =
    (d : ℕ) → d < l.other-counter → IsTrue (waits_for l.board l.plan.wishes.items l.rail d)
    → IsTrue (is_placed l.placed d)
