-- Runs that are played.
use Rattle.std.specs.Prelude.{◌≡◌, ◌≤◌, List, All, length}
use Rattle.board.specs.Boards.{Board}
use Rattle.bundles.specs.AnswerTexts.{CanBeSaid}
use Rattle.seq_program.specs.declared.instr.Instr.{Instr}
use Rattle.smbus.specs.Answered.{Answered}
use Rattle.targets.specs.States.{BusState, IsStart}
use Rattle.simulator.specs.declared.machine.Ending.{Ending}
use Rattle.simulator.specs.Machines.{start_at, start_state}
use Rattle.simulator.specs.Steps.{IsRun}
use Rattle.simulator.specs.Traces.{Trace, IsTrace}
use Rattle.run_player.specs.declared.playing.Played.{Played}
use Rattle.run_player.specs.declared.playing.TheConstants.{MOST_STEPS}

-- the answers have a step each from the start, and the program ended so after the last
pub record IsPlayedFrom (b : Board) (p : List Instr) (s : BusState) (answers : List Answered)
    (ended : Ending) : Type 0 where
  pub trace : Trace
  pub is_trace : IsTrace trace
  pub run : IsRun b p (start_at s) answers trace.entries trace.last
  pub end : ended ≡ trace.last.ended
  pub said : All CanBeSaid answers
  pub few : length answers ≤ MOST_STEPS

-- a run that starts as the board lets its targets start
pub record IsPlay (b : Board) (p : List Instr) (x : Played) : Type 0 where
  pub may_start : IsStart b (start_state x.pages.items x.protects.items)
  pub played : IsPlayedFrom b p (start_state x.pages.items x.protects.items) x.answers.items
      x.ended
