use Rattle.std.proofs.Common.{ℕ, ◌<◌, slice_index}
use Rattle.board.specs.Boards.{Target}
use Rattle.targets.specs.States.{IsTargetAt, MayStart}
use Rattle.targets.proofs.start.each_may_start.Given as goal

-- the targets before this one may start so
abbrev pub invariant-loop-index : goal.invariant-loop-index
invariant-loop-index l =
    (i : ℕ) (t : Target) → i < l.index → IsTargetAt l.board i t
    → MayStart t (slice_index l.state.page i) (slice_index l.state.protect i)
