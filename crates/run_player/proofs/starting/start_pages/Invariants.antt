use Rattle.std.proofs.Common.{take}
use Rattle.run_player.specs.StartValues.{AreListed}
use Rattle.run_player.proofs.starting.start_pages.Given as goal

abbrev pub invariant-loop-target : goal.invariant-loop-target
invariant-loop-target l =
    AreListed (λ t. t.start_pages) l.pages.items (take l.target-index l.board.targets)
