-- The faults of runs: their numbers and names, and what each says.
use Rattle.std.specs.Prelude.{◌≡◌, ◌≢◌, ◌<◌, ◌≤◌, ◌+◌, ℕ, List, slice_get, take, Option, Some, None}
use Rattle.std.specs.Prelude.{codes}
use Rattle.wires.specs.declared.runs.TheConstants.{MOST_SAMPLES}
use Rattle.smbus.specs.Answered.{Answered}
use Rattle.board.specs.Boards.{Board}
use Rattle.targets.specs.Fitting.{FitsStep}
use Rattle.seq_program.specs.declared.instr.Instr.{Instr}
use Rattle.seq_program.specs.Messages.{message_of}
use Rattle.simulator.specs.declared.machine.Ending.TheVariants.{Running}
use Rattle.simulator.specs.declared.fault.RunFault.{RunFault}
use Rattle.simulator.specs.declared.fault.RunFault.TheVariants as fault
use Rattle.simulator.specs.Machines.{Machine, Entry}
use Rattle.simulator.specs.Steps.{IsStep, IsRun, total_ticks}

abbrev pub number_of : RunFault → ℕ
number_of fault.Memory = 1
number_of (fault.AnswerDoesNotFit index) = 2
number_of (fault.AfterEnd index) = 3
number_of fault.TooLong = 4
number_of fault.BadStart = 5

abbrev pub name_of : RunFault → List ℕ
name_of fault.Memory = codes "Memory"
name_of (fault.AnswerDoesNotFit index) = codes "AnswerDoesNotFit"
name_of (fault.AfterEnd index) = codes "AfterEnd"
name_of fault.TooLong = codes "TooLong"
name_of fault.BadStart = codes "BadStart"

abbrev pub index_of : RunFault → Option ℕ
index_of (fault.AnswerDoesNotFit index) = Some index
index_of (fault.AfterEnd index) = Some index
index_of other = None

-- the most ticks of a run, a sample each
abbrev pub most_ticks : ℕ
most_ticks = MOST_SAMPLES

-- the targets can't answer so to the instruction at the machine's place
pub record DoesNotFit (b : Board) (p : List Instr) (m : Machine) (a : Answered) : Type 0 where
  pub running : m.ended ≡ Running
  pub instr : Instr
  pub here : slice_get p m.place ≡ Some instr
  pub outside : FitsStep b m.bus (message_of b instr m.regs) a → ⊥

-- the step would go past the most samples, where so many stand before it
pub record IsTooLong (b : Board) (p : List Instr) (m : Machine) (a : Answered)
    (before : ℕ) : Type 0 where
  pub entry : Entry
  pub next : Machine
  pub step : IsStep b p m a entry next
  pub long : most_ticks < before + entry.ticks

-- why the answer of an index gives no step, where so many samples stand before it
abbrev pub IsStepFault : Board → List Instr → Machine → Answered → ℕ → ℕ → RunFault → Type 0
IsStepFault b p m a before index (fault.AfterEnd i) = (m.ended ≢ Running) × (i ≡ index)
IsStepFault b p m a before index (fault.AnswerDoesNotFit i) = DoesNotFit b p m a × (i ≡ index)
IsStepFault b p m a before index fault.TooLong = IsTooLong b p m a before
IsStepFault b p m a before index other = ⊥

-- the run goes as far as an answer, and there it fails
pub record RunFails (b : Board) (p : List Instr) (m : Machine) (answers : List Answered)
    (fault : RunFault) : Type 0 where
  pub index : ℕ
  pub entries : List Entry
  pub reached : Machine
  pub run : IsRun b p m (take index answers) entries reached
  pub within : total_ticks entries ≤ most_ticks
  pub answer : Answered
  pub here : slice_get answers index ≡ Some answer
  pub why : IsStepFault b p reached answer (total_ticks entries) index fault
