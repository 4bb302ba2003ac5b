-- Programs and their printed texts.
use Rattle.std.specs.Prelude.{◌≡◌, List, length, slice_get, Ok, All, IfSome, IsSome}
use Rattle.board.specs.Boards.{Board}
use Rattle.board.specs.Valid.{IsBoard}
use Rattle.seq_program.specs.declared.instr.Instr.{Instr}
use Rattle.seq_program.specs.Programs.{program_of}
use Rattle.seq_program.specs.Requests.{target_in}
use Rattle.seq_program.specs.Valid.{IsOnBoard, IsProgram}
use Rattle.seq_program.specs.Printed.{printed}

-- reading the printed text of a board's program gives the program
abbrev pub PrintedProgramsReadBack : Type 0
PrintedProgramsReadBack = (board : Board) → IsBoard board → (instrs : List Instr)
    → IsProgram instrs
    → All (λ i. IsOnBoard (length board.targets) i) instrs
    → program_of board (printed board instrs) ≡ Ok instrs

-- a program of a board, which sends a message
pub record SomeProgram (board : Board) : Type 0 where
  pub instrs : List Instr
  pub program : IsProgram instrs
  pub targets : All (λ i. IsOnBoard (length board.targets) i) instrs
  pub sends : IfSome (slice_get instrs 0) (λ i. IsSome (target_in i))

-- every board has one
abbrev pub BoardsHavePrograms : Type 0
BoardsHavePrograms = (board : Board) → IsBoard board → SomeProgram board
