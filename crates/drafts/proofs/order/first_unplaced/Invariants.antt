use Rattle.std.proofs.Common.{ℕ, ◌<◌, IsTrue}
use Rattle.drafts.specs.Orders.{is_placed}
use Rattle.drafts.proofs.order.first_unplaced.Given as goal

-- those before this one are placed
abbrev pub invariant-loop-rail : goal.invariant-loop-rail
invariant-loop-rail l = (d : ℕ) → d < l.rail-counter → IsTrue (is_placed l.placed d)
