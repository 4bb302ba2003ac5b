-- The text of a program in one fixed form, with a label at each place.
use Rattle.std.specs.Prelude.{ℕ, List, [], ◌∷◌, ◌++◌, codes}
use Rattle.std.specs.List.{join_with_byte, flat_map, enumerate_from}
use Rattle.std.specs.Fmt.{decimal}
use Rattle.texts.specs.Hex.{pairs_text}
use Rattle.pmbus_table.specs.Commands.{name_text}
use Rattle.board.specs.Boards.{Board}
use Rattle.seq_program.specs.declared.instr.Instr.{Instr}
use Rattle.seq_program.specs.declared.instr.Instr.TheVariants as instr
use Rattle.seq_program.specs.declared.instr.Width.TheVariants as width
use Rattle.seq_program.specs.declared.instr.Written.{Written}
use Rattle.seq_program.specs.declared.instr.Written.TheVariants as written
use Rattle.seq_program.specs.PrintedWords.{place_name, register_name, counter_name, target_name}
use Rattle.seq_program.specs.PrintedWords.{direction_name, sized_name}
use Rattle.texts.specs.Ascii as ascii

-- where a message leads that isn't done
abbrev pub else_words : ℕ → List (List ℕ)
else_words place = codes "else" ∷ place_name place ∷ []

-- what is written, and the command as it writes this
abbrev pub written_words : ℕ → Written → List (List ℕ)
written_words command (written.Byte value) = sized_name command width.Byte ∷ decimal value ∷ []
written_words command (written.Word value) = sized_name command width.Word ∷ decimal value ∷ []
written_words command (written.Register register) =
    sized_name command width.Word ∷ register_name register ∷ []

-- the words of an instruction, in the order of docs/PROGRAM.md
abbrev pub words_in : Board → Instr → List (List ℕ)
words_in board (instr.Quick target read place) =
    codes "quick" ∷ target_name board target ∷ direction_name read ∷ else_words place
words_in board (instr.Send target command place) =
    codes "send" ∷ target_name board target ∷ name_text command ∷ else_words place
words_in board (instr.Receive target register place) =
    codes "receive" ∷ target_name board target ∷ register_name register ∷ else_words place
words_in board (instr.Write target command value place) =
    codes "write" ∷ target_name board target ∷ (written_words command value ++ else_words place)
words_in board (instr.Read target command size register place) =
    codes "read" ∷ target_name board target ∷ sized_name command size ∷ register_name register
    ∷ else_words place
words_in board (instr.Call target command value register place) =
    codes "call" ∷ target_name board target ∷ name_text command ∷ decimal value
    ∷ register_name register ∷ else_words place
words_in board (instr.BlockWrite target command bytes place) =
    codes "blockwrite" ∷ target_name board target ∷ name_text command ∷ pairs_text bytes
    ∷ else_words place
words_in board (instr.BlockRead target command register place) =
    codes "blockread" ∷ target_name board target ∷ name_text command ∷ register_name register
    ∷ else_words place
words_in board (instr.BlockCall target command bytes register place) =
    codes "blockcall" ∷ target_name board target ∷ name_text command ∷ pairs_text bytes
    ∷ register_name register ∷ else_words place
words_in board (instr.Alert register place) =
    codes "alert" ∷ register_name register ∷ else_words place
words_in board (instr.IfAlert place) = codes "ifalert" ∷ place_name place ∷ []
words_in board (instr.Set register value) =
    codes "set" ∷ register_name register ∷ decimal value ∷ []
words_in board (instr.Add register value) =
    codes "add" ∷ register_name register ∷ decimal value ∷ []
words_in board (instr.If register mask value place) =
    codes "if" ∷ register_name register ∷ decimal mask ∷ decimal value ∷ place_name place ∷ []
words_in board (instr.Above register value place) =
    codes "above" ∷ register_name register ∷ decimal value ∷ place_name place ∷ []
words_in board (instr.Count counter value) =
    codes "count" ∷ counter_name counter ∷ decimal value ∷ []
words_in board (instr.Again counter place) =
    codes "again" ∷ counter_name counter ∷ place_name place ∷ []
words_in board (instr.Wait ticks) = codes "wait" ∷ decimal ticks ∷ []
words_in board (instr.Goto place) = codes "goto" ∷ place_name place ∷ []
words_in board instr.End = codes "end" ∷ []
words_in board instr.Fail = codes "fail" ∷ []

-- a place's lines: its label, and its instruction
abbrev pub place_lines : Board → ℕ × Instr → List (List (List ℕ))
place_lines board e = ((place_name e.0 ++ codes ":") ∷ []) ∷ words_in board e.1 ∷ []

-- one space between words, and LF at the end
abbrev pub line_text : List (List ℕ) → List ℕ
line_text words = join_with_byte ascii.space words ++ ascii.line_feed ∷ []

abbrev pub printed : Board → List Instr → List ℕ
printed board instrs = flat_map line_text (flat_map (place_lines board) (enumerate_from 0 instrs))
