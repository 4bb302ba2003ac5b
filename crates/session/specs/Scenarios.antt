-- What a run is asked with, and what it is: a program on its board, how the targets start, and what
-- they answer.
use Rattle.std.specs.Prelude.{◌≡◌, length, Result, Ok, All}
use Rattle.texts.specs.Reading.{◌>>=◌}
use Rattle.targets.specs.States.{BusState, IsStart}
use Rattle.seq_program.specs.Valid.{IsOnBoard}
use Rattle.simulator.specs.declared.fault.RunFault.{RunFault}
use Rattle.simulator.specs.declared.fault.RunFault.TheVariants.{BadStart}
use Rattle.simulator.specs.Faults.{RunFails}
use Rattle.simulator.specs.Machines.{Machine, IsMachine, start_at, start_state}
use Rattle.simulator.specs.Steps.{IsRun}
use Rattle.simulator.specs.Traces.{Trace, IsTrace}
use Rattle.session.specs.declared.fault.InputFault.{InputFault}
use Rattle.session.specs.declared.fault.InputFault.TheVariants as faults
use Rattle.session.specs.declared.scenario.Scenario.{Scenario}
use Rattle.session.specs.Faults.{faulted}
use Rattle.bundles.specs.Answers.{answers_in}
use Rattle.bundles.specs.Bundles.{Section}
use Rattle.session.specs.Sequences.{sequence_in}

-- the sections in order
unfoldable pub scenario_in : Section → Section → Section → Result Scenario InputFault
scenario_in on program answered = do
  sequence ← sequence_in on program
  answers ← faulted faults.Bundle (answers_in answered)
  Ok (record { board = sequence.board; program = sequence.program; answers = answers })

-- what the program's targets are is the board's
abbrev pub IsOnItsBoard : Scenario → Type 0
IsOnItsBoard s = All (λ i. IsOnBoard (length s.board.targets) i) s.program

abbrev pub start_of : Scenario → BusState
start_of s = start_state s.answers.pages s.answers.protects

-- the machine at the run's start
pub record IsAtStart (s : Scenario) (m : Machine) : Type 0 where
  pub may_start : IsStart s.board (start_of s)
  pub first : m ≡ start_at (start_of s)
  pub machine : IsMachine s.board s.program m

-- the targets can't start so
pub record CannotStart (s : Scenario) (fault : RunFault) : Type 0 where
  pub is_start : fault ≡ BadStart
  pub may_not : IsStart s.board (start_of s) → ⊥

-- the run from the start, with a step for each answer
pub record IsRunOf (s : Scenario) (t : Trace) : Type 0 where
  pub may_start : IsStart s.board (start_of s)
  pub run : IsRun s.board s.program (start_at (start_of s)) s.answers.answers t.entries t.last
  pub trace : IsTrace t

-- why there is none: the targets can't start so, or the first answer without a step
abbrev pub IsFaultOf : Scenario → RunFault → Type 0
IsFaultOf s BadStart = IsStart s.board (start_of s) → ⊥
IsFaultOf s fault =
    IsStart s.board (start_of s)
    × RunFails s.board s.program (start_at (start_of s)) s.answers.answers fault
