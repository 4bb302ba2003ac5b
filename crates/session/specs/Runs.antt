-- Runs that are judged.
use Rattle.std.specs.Prelude.{◌≤◌, ◌+◌, ℕ, List, Option, Some, None}
use Rattle.smbus.specs.Answered.{Answered}
use Rattle.board.specs.Boards.{Board}
use Rattle.seq_program.specs.declared.instr.Instr.{Instr}
use Rattle.simulator.specs.declared.fault.RunFault.{RunFault}
use Rattle.simulator.specs.Faults.{most_ticks, IsStepFault}
use Rattle.simulator.specs.Machines.{Machine, Entry, IsMachine}
use Rattle.simulator.specs.Steps.{IsStep}
use Rattle.simulator.specs.Traces.{HasItsFrame}

-- a step that goes on, where so many ticks were taken before it
pub record IsNextStep (b : Board) (p : List Instr) (m : Machine) (a : Answered) (ticks : ℕ)
    (e : Entry) (next : Machine) : Type 0 where
  pub step : IsStep b p m a e next
  pub machine : IsMachine b p next
  pub seen : HasItsFrame e
  pub within : ticks + e.ticks ≤ most_ticks

-- the next step of a run, or none for a reason
abbrev pub IsNextOrFault : Board → List Instr → Machine → Answered → ℕ → ℕ
    → Option (Machine × Entry)
    → Type 0
IsNextOrFault b p m a ticks index None = (fault : RunFault) × IsStepFault b p m a ticks index fault
IsNextOrFault b p m a ticks index (Some r) = IsNextStep b p m a ticks r.1 r.0
