use Rattle.std.proofs.Common.{take}
use Rattle.run_player.specs.StartValues.{AreListed}
use Rattle.run_player.proofs.starting.start_protects.Given as goal

abbrev pub invariant-loop-target : goal.invariant-loop-target
invariant-loop-target l =
    AreListed (λ t. t.start_protects) l.protects.items (take l.target-index l.board.targets)
