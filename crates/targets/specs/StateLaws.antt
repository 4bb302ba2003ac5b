-- States stay those of their board.
use Rattle.smbus.specs.Asked.{Asked}
use Rattle.smbus.specs.Answered.{Answered}
use Rattle.std.specs.Prelude.{Option}
use Rattle.board.specs.Boards.{Board}
use Rattle.board.specs.Valid.{IsBoard}
use Rattle.targets.specs.States.{BusState, IsStart, Belongs}
use Rattle.targets.specs.Effects.{IsAfterStep}
use Rattle.targets.specs.Fitting.{FitsStep}

-- a state in which a run may start belongs to the board
abbrev pub StartsBelong : Type 0
StartsBelong = (b : Board) (s : BusState) → IsBoard b → IsStart b s → Belongs b s

-- and so does the state after an answer that fits
abbrev pub StepsBelong : Type 0
StepsBelong = (b : Board) (s new : BusState) (m : Option Asked) (a : Answered) → Belongs b s
    → FitsStep b s m a → IsAfterStep b s m a new → Belongs b new

-- a state after a message, or after a step that sends none
pub record HasStateAfter (b : Board) (s : BusState) (m : Option Asked) (a : Answered) : Type 0 where
  pub state : BusState
  pub after : IsAfterStep b s m a state

-- whatever is asked and answered, there is one
abbrev pub AnswersHaveStates : Type 0
AnswersHaveStates = (b : Board) (s : BusState) (m : Option Asked) (a : Answered) → IsBoard b
    → Belongs b s → HasStateAfter b s m a
