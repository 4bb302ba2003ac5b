-- Steps beside other controllers: each stands alone, or is lost to one of them.
use Rattle.std.specs.Prelude.{◌≡◌, ◌+◌, ◌⊎◌, ◌↔◌, List, Option, Some, None}
use Rattle.smbus.specs.Asked.{Asked}
use Rattle.smbus.specs.Answered.{Answered}
use Rattle.smbus.specs.Contenders.{Contender, contender_samples}
use Rattle.smbus.specs.Winners.{winner, carried}
use Rattle.board.specs.Boards.{Board}
use Rattle.board.specs.Valid.{IsBoard}
use Rattle.targets.specs.declared.outcome.Outcome.TheVariants.{Lost}
use Rattle.targets.specs.Fitting.{FitsAlone, MayContend, FitsLost}
use Rattle.targets.specs.Effects.{IsAfter}
use Rattle.targets.specs.Outcomes.{outcome_alone}
use Rattle.seq_program.specs.declared.instr.Instr.{Instr}
use Rattle.seq_program.specs.Messages.{message_of}
use Rattle.simulator.specs.Machines.{Machine, Entry}
use Rattle.simulator.specs.Moves.{moved}
use Rattle.simulator.specs.Steps.{alert_level, entry_alone, step_entry, IsStepOf, IsStep}

-- a step over which no other controller wins: what it would be without any
pub record IsStepAlone (b : Board) (i : Instr) (message : Option Asked) (m : Machine)
    (a : Answered) (e : Entry) (next : Machine) : Type 0 where
  pub kept : carried message a ≡ message
  pub fits : FitsAlone b m.bus message a
  pub bus : IsAfter b m.bus message a next.bus
  pub lost : next.bus.lost ≡ m.bus.lost
  pub next_is : next ≡ moved i message (outcome_alone message a) next.bus m
  pub entry_is : e ≡ entry_alone i message a m

-- a step that another controller wins: its frame is on the lines, the targets are left as they are,
-- and the message isn't done
pub record IsStepLost (b : Board) (i : Instr) (message : Asked) (c : Contender) (m : Machine)
    (a : Answered) (e : Entry) (next : Machine) : Type 0 where
  pub wins : winner message a ≡ Some c
  pub may : MayContend b c
  pub fits : FitsLost b m.bus a
  pub bus : IsAfter b m.bus None a next.bus
  pub lost : next.bus.lost ≡ m.bus.lost + 1
  pub next_is : next ≡ moved i (Some message) Lost next.bus m
  pub samples : e.samples ≡ contender_samples (alert_level m.bus) c
  pub entry_is : e ≡ step_entry i (Some message) a m

abbrev pub IsLostTo : Board → Instr → Option Asked → Machine → Answered → Entry → Machine → Type 0
IsLostTo b i o m a e next =
    (message : Asked) × (c : Contender) × (o ≡ Some message)
    × IsStepLost b i message c m a e next

-- each step is one of the two
abbrev pub StepsStandAloneOrAreLost : Type 0
StepsStandAloneOrAreLost =
    (b : Board) (i : Instr) (o : Option Asked) (m : Machine) (a : Answered) (e : Entry)
    (next : Machine) → IsStepOf b i o m a e next
    → IsStepAlone b i o m a e next ⊎ IsLostTo b i o m a e next

-- and where no other controller starts, the steps are those that stand alone
abbrev pub StepsWithoutContendersStandAlone : Type 0
StepsWithoutContendersStandAlone =
    (b : Board) (i : Instr) (o : Option Asked) (m : Machine) (a : Answered) (e : Entry)
    (next : Machine) → a.contender ≡ None
    → IsStepOf b i o m a e next ↔ IsStepAlone b i o m a e next

-- there is a step that another controller wins
pub record SomeStepIsLost : Type 0 where
  pub board : Board
  pub program : List Instr
  pub machine : Machine
  pub answer : Answered
  pub entry : Entry
  pub next : Machine
  pub is_board : IsBoard board
  pub step : IsStep board program machine answer entry next
  pub lost : IsLostTo board step.instr (message_of board step.instr machine.regs) machine answer
      entry next
