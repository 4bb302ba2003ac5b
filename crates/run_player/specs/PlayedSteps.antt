-- A step that is played. Private functions work with it.
use Rattle.std.specs.Prelude.{◌≤◌, ◌+◌, ℕ, List}
use Rattle.board.specs.Boards.{Board}
use Rattle.bundles.specs.AnswerTexts.{CanBeSaid}
use Rattle.seq_program.specs.declared.instr.Instr.{Instr}
use Rattle.smbus.specs.Answered.{Answered}
use Rattle.simulator.specs.Faults.{most_ticks}
use Rattle.simulator.specs.Machines.{Machine, Entry, IsMachine}
use Rattle.simulator.specs.Steps.{IsStep}
use Rattle.simulator.specs.Traces.{HasItsFrame}

-- a step of a run, where so many ticks stand before it, under an answer that a line can say
pub record IsPlayedStep (b : Board) (p : List Instr) (before : ℕ) (m : Machine) (a : Answered)
    (e : Entry) (next : Machine) : Type 0 where
  pub step : IsStep b p m a e next
  pub machine : IsMachine b p next
  pub seen : HasItsFrame e
  pub within : before + e.ticks ≤ most_ticks
  pub said : CanBeSaid a
