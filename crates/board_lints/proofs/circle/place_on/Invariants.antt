use Rattle.std.proofs.Common.{◌≡◌, false, take}
use Rattle.board_lints.specs.Ready.{is_ready}
use Rattle.board_lints.proofs.circle.place_on.Given as goal

abbrev pub invariant-loop-place : goal.invariant-loop-place
invariant-loop-place l = is_ready (take l.place l.way) l.rail ≡ false
