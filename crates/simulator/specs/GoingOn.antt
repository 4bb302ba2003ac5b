-- No run is stuck: each answer that fits has a step.
use Rattle.std.specs.Prelude.{◌≡◌, List, slice_get, Some}
use Rattle.smbus.specs.Answered.{Answered}
use Rattle.board.specs.Boards.{Board}
use Rattle.board.specs.Valid.{IsBoard}
use Rattle.targets.specs.States.{Belongs}
use Rattle.targets.specs.Fitting.{FitsStep}
use Rattle.seq_program.specs.declared.instr.Instr.{Instr}
use Rattle.seq_program.specs.Messages.{message_of}
use Rattle.simulator.specs.declared.machine.Ending.TheVariants.{Running}
use Rattle.simulator.specs.Machines.{Machine, Entry}
use Rattle.simulator.specs.Steps.{IsStep}
use Rattle.simulator.specs.Headline.{GoesOn}

-- a step of the machine under this answer
pub record HasStep (b : Board) (p : List Instr) (m : Machine) (a : Answered) : Type 0 where
  pub entry : Entry
  pub next : Machine
  pub step : IsStep b p m a entry next

-- under each that fits what the instruction at the machine's place sends
abbrev pub FittingAnswersHaveSteps : Type 0
FittingAnswersHaveSteps = (b : Board) (p : List Instr) (m : Machine) (i : Instr) (a : Answered)
    → IsBoard b → Belongs b m.bus → m.ended ≡ Running → slice_get p m.place ≡ Some i
    → FitsStep b m.bus (message_of b i m.regs) a → HasStep b p m a

-- so where the targets can answer, there is an answer with a step
abbrev pub GoingOnHasSteps : Type 0
GoingOnHasSteps = (b : Board) (p : List Instr) (m : Machine) → IsBoard b → Belongs b m.bus
    → m.ended ≡ Running → GoesOn b p m → (a : Answered) × HasStep b p m a
