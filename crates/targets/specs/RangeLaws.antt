-- What an entry lets a message return.
use Rattle.smbus.specs.Asked.{Asked}
use Rattle.board.specs.Boards.{Board}
use Rattle.board.specs.Valid.{IsWithin, IsBoard, full_values, full_length}
use Rattle.targets.specs.Fitting.{values_for, lengths_for}

-- some values, and only such as the message's form has
abbrev pub ValuesAreOfForm : Type 0
ValuesAreOfForm = (b : Board) (m : Asked) → IsBoard b
    → IsWithin (full_values m.form) (values_for b m)

-- and some lengths of a block
abbrev pub LengthsAreOfBlocks : Type 0
LengthsAreOfBlocks = (b : Board) (m : Asked) → IsBoard b → IsWithin full_length (lengths_for b m)
