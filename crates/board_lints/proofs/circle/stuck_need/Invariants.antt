use Rattle.std.proofs.Common.{All, take}
use Rattle.std.specs.Prelude.{IsTrue}
use Rattle.board_lints.specs.Ready.{is_ready}
use Rattle.board_lints.proofs.circle.stuck_need.Given as goal

-- the needs before this one are ready
abbrev pub invariant-loop-need : goal.invariant-loop-need
invariant-loop-need l =
    All (λ need. IsTrue (is_ready l.ready need)) (take l.need-index l.need-items)
