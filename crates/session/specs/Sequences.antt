-- What a search is asked with: a program on its board.
use Rattle.std.specs.Prelude.{List, Result, Ok}
use Rattle.texts.specs.Reading.{◌>>=◌}
use Rattle.board.specs.Boards.{Board}
use Rattle.board.specs.Files.{read_of}
use Rattle.seq_program.specs.declared.instr.Instr.{Instr}
use Rattle.seq_program.specs.Programs.{program_of}
use Rattle.bundles.specs.Bundles.{Section}
use Rattle.session.specs.declared.fault.InputFault.{InputFault}
use Rattle.session.specs.declared.fault.InputFault.TheVariants as faults
use Rattle.session.specs.declared.sequence.Sequence.{Sequence}
use Rattle.session.specs.Faults.{faulted}
use Rattle.session.specs.SectionTexts.{section_text}

abbrev pub board_in : Section → Result Board InputFault
board_in section = faulted faults.Board (read_of (section_text section))

abbrev pub program_in : Board → Section → Result (List Instr) InputFault
program_in board section = faulted faults.Program (program_of board (section_text section))

-- the sections in order
unfoldable pub sequence_in : Section → Section → Result Sequence InputFault
sequence_in on program = do
  board ← board_in on
  instrs ← program_in board program
  Ok (record { board = board; program = instrs })
