-- What fits a message are bytes on the wire.
use Rattle.std.specs.Prelude.{◌<◌, All}
use Rattle.smbus.specs.Asked.{Asked}
use Rattle.smbus.specs.Answered.{Answered}
use Rattle.board.specs.Boards.{Board}
use Rattle.board.specs.Valid.{IsBoard}
use Rattle.targets.specs.Fitting.{FitsForm}
use Rattle.targets.specs.States.{BusState, Belongs}

pub record IsOnWire (a : Answered) : Type 0 where
  pub value : a.value < 65536
  pub read : All (λ byte. byte < 256) a.bytes

abbrev pub FittingBytesAreOnWire : Type 0
FittingBytesAreOnWire = (b : Board) (s : BusState) (m : Asked) (a : Answered) → IsBoard b
    → Belongs b s → FitsForm m.form b s m a → IsOnWire a
