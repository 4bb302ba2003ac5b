-- Operands of a line, by the numbers of their words, or the fault of the line.
use Rattle.std.specs.Prelude.{ℕ, List, Result, Ok}
use Rattle.texts.specs.Reading.{◌>>=◌, some_or}
use Rattle.smbus.specs.declared.message.Form.{Form}
use Rattle.board.specs.Boards.{Board, place_of_name}
use Rattle.seq_program.specs.declared.fault.Misfit.TheVariants as misfit
use Rattle.seq_program.specs.declared.fault.Operand.TheVariants as operand
use Rattle.seq_program.specs.declared.fault.ProgramFault.{ProgramFault}
use Rattle.seq_program.specs.declared.fault.ProgramFault.TheVariants.{BadOperand, BadNumber}
use Rattle.seq_program.specs.declared.fault.ProgramFault.TheVariants.{UnknownTarget, UnknownCommand}
use Rattle.seq_program.specs.declared.line_operand.CommandTo.{CommandTo}
use Rattle.seq_program.specs.declared.line_operand.SizedTo.{SizedTo}
use Rattle.seq_program.specs.Operands.{register_of, counter_of, number_within, block_of}
use Rattle.seq_program.specs.CommandWords.{command_in, sized_in}

-- a target of the board, by its name
unfoldable pub target_of : Board → ℕ → List ℕ → Result ℕ ProgramFault
target_of board n word = some_or (UnknownTarget n) (place_of_name word board.target_names)

-- a number of a range
unfoldable pub number_in : ℕ → ℕ → ℕ → ℕ → List ℕ → Result ℕ ProgramFault
number_in n at' low high word =
    some_or (BadNumber n at' low high) (number_within low high word)

-- a number of 16 bits
unfoldable pub word_in : ℕ → ℕ → List ℕ → Result ℕ ProgramFault
word_in n at' word = number_in n at' 0 65535 word

-- a register
unfoldable pub register_in : ℕ → ℕ → List ℕ → Result ℕ ProgramFault
register_in n at' word =
    some_or (BadOperand n (misfit.Word at' operand.Register)) (register_of word)

-- a counter
unfoldable pub counter_in : ℕ → ℕ → List ℕ → Result ℕ ProgramFault
counter_in n at' word =
    some_or (BadOperand n (misfit.Word at' operand.Counter)) (counter_of word)

-- at most so many bytes
unfoldable pub block_in : ℕ → ℕ → ℕ → List ℕ → Result (List ℕ) ProgramFault
block_in n at' most word =
    some_or (BadOperand n (misfit.Word at' (operand.Bytes most))) (block_of most word)

-- `T C`, where C takes a form
unfoldable pub command_to : Board → ℕ → Form → List ℕ → List ℕ → Result CommandTo ProgramFault
command_to board n form t c = do
  target ← target_of board n t
  command ← some_or (UnknownCommand n form form) (command_in form c)
  Ok (record { target = target; command = command })

-- `T C`, where C takes a form of a byte or one of a word
unfoldable pub sized_to : Board → ℕ → Form → Form → List ℕ → List ℕ → Result SizedTo ProgramFault
sized_to board n byte word t c = do
  target ← target_of board n t
  sized ← some_or (UnknownCommand n byte word) (sized_in byte word c)
  Ok (record { target = target; command = sized.0; width = sized.1 })
