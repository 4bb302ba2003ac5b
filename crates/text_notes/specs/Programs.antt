-- A program's text for a board, as notes on its faults see it.
use Rattle.std.specs.Prelude.{◌≡◌, ℕ, List}
use Rattle.board.specs.Boards.{Board}
use Rattle.text_notes.specs.declared.program.Written.{Written}

-- what notes see is the text, and the board
pub record IsWritten (b : Board) (text : List ℕ) (written : Written) : Type 0 where
  pub board : written.board.now ≡ b
  pub whole : written.text.now ≡ text
