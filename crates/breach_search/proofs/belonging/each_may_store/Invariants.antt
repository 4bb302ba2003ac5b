use Rattle.std.proofs.Common.{ℕ, ◌<◌, slice_index}
use Rattle.board.specs.Boards.{Target}
use Rattle.targets.specs.States.{IsTargetAt, MayStore}
use Rattle.breach_search.proofs.belonging.each_may_store.Given as goal

-- the targets before this one may store so
abbrev pub invariant-loop-index : goal.invariant-loop-index
invariant-loop-index l =
    (i : ℕ) (t : Target) → i < l.index → IsTargetAt l.board i t
    → MayStore t (slice_index l.state.page i) (slice_index l.state.protect i)
