use Rattle.std.proofs.Common.{◌≡◌, ◌<◌, ℕ, All, Some, slice_get}
use Rattle.std.specs.Prelude.{IsTrue}
use Rattle.board.specs.Boards.{Rail}
use Rattle.board_lints.specs.Ready.{is_ready}
use Rattle.board_lints.proofs.ready.next_ready.Given as goal

-- of the rails before this one, those are ready whose needs all are
abbrev pub invariant-loop-index : goal.invariant-loop-index
invariant-loop-index l =
    (d : ℕ) (r : Rail) → d < l.index → slice_get l.board.rails d ≡ Some r
    → All (λ need. IsTrue (is_ready l.ready need)) r.needs → IsTrue (is_ready l.ready d)
