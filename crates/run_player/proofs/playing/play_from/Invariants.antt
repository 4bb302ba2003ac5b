use Rattle.std.proofs.Common.{◌-◌, length}
use Rattle.simulator.specs.Machines.{start_state}
use Rattle.run_player.specs.declared.playing.TheConstants.{MOST_STEPS}
use Rattle.run_player.proofs.Going.{IsSoFar}
use Rattle.run_player.proofs.playing.play_from.Given as goal

abbrev pub invariant-loop-answers : goal.invariant-loop-answers
invariant-loop-answers l =
    IsSoFar l.values.board.now l.program (start_state l.pages l.protects) l.answers.items l.ticks
    l.stage.machine

abbrev pub decreases-loop-answers : goal.decreases-loop-answers
decreases-loop-answers l = MOST_STEPS - length l.answers.items
