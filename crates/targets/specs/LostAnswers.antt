-- Other controllers that may start may win.
use Rattle.std.specs.Prelude.{◌≡◌, ◌<◌, Some}
use Rattle.smbus.specs.Asked.{Asked}
use Rattle.smbus.specs.Contenders.{Contender}
use Rattle.smbus.specs.Answered.{Answered}
use Rattle.board.specs.Boards.{Target, Board}
use Rattle.board.specs.Valid.{IsBoard}
use Rattle.targets.specs.States.{BusState, IsStart, IsTargetAt}
use Rattle.targets.specs.Fitting.{MayContend, FitsStep}
use Rattle.targets.specs.SomeAnswer.{IsMessage, IsAnswer}

-- the board lets it start beside the message, and its address is lower
pub record MayWin (b : Board) (s : BusState) (m : Asked) (c : Contender) : Type 0 where
  pub may : MayContend b c
  pub lower : c.address < m.address
  pub few : s.lost < b.contentions

pub record HasLostAnswer (b : Board) (s : BusState) (m : Asked) (c : Contender) : Type 0 where
  pub answer : Answered
  pub is_answer : IsAnswer answer
  pub starts : answer.contender ≡ Some c
  pub fits : FitsStep b s (Some m) answer

-- then some answer with it fits
abbrev pub ContendersMayWin : Type 0
ContendersMayWin = (b : Board) (s : BusState) (m : Asked) (c : Contender) → IsBoard b
    → MayWin b s m c → HasLostAnswer b s m c

-- there is such a board, a state in which a run on it may start, such a message and such a
-- controller
pub record SomeMayWin : Type 0 where
  pub board : Board
  pub state : BusState
  pub message : Asked
  pub contender : Contender
  pub target : Target
  pub is_board : IsBoard board
  pub is_start : IsStart board state
  pub is_message : IsMessage board message
  -- it goes to the board's first target
  pub at : IsTargetAt board 0 target
  pub to : message.address ≡ target.address
  pub may_win : MayWin board state message contender
