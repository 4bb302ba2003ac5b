-- The instruction of a line, by its first word.
use Rattle.std.specs.Prelude.{ℕ, ◌-◌, ◌==◌, List, [], ◌∷◌, length, take, slice_index_or, Bool}
use Rattle.std.specs.Prelude.{true, Option, Some, None, is_some, unwrap_or, Result, Ok}
use Rattle.std.specs.Prelude.{Err, if◌then◌else◌, codes}
use Rattle.std.specs.Str.{bytes_eq}
use Rattle.texts.specs.Reading.{◌>>=◌, some_or, value_if}
use Rattle.texts.specs.Words.{named_among}
use Rattle.board.specs.Boards.{Board}
use Rattle.seq_program.specs.declared.fault.ProgramFault.{ProgramFault}
use Rattle.seq_program.specs.declared.fault.Misfit.TheVariants as misfit
use Rattle.seq_program.specs.declared.fault.Operand.TheVariants as operand
use Rattle.seq_program.specs.declared.fault.ProgramFault.TheVariants.{BadOperand, UnknownWord}
use Rattle.seq_program.specs.declared.line_word.MessageWord.{MessageWord}
use Rattle.seq_program.specs.declared.line_word.MessageWord.TheVariants as message
use Rattle.seq_program.specs.declared.line_word.JumpWord.{JumpWord}
use Rattle.seq_program.specs.declared.line_word.JumpWord.TheVariants as jump
use Rattle.seq_program.specs.declared.line_word.PlainWord.{PlainWord}
use Rattle.seq_program.specs.declared.line_word.PlainWord.TheVariants as plain
use Rattle.seq_program.specs.declared.line.Jump.{Jump}
use Rattle.seq_program.specs.declared.line.LineInstr.{LineInstr}
use Rattle.seq_program.specs.Operands.{label_of}
use Rattle.seq_program.specs.WordCounts.{miscounted, message_count, jump_count}
use Rattle.seq_program.specs.Labels.{Label, place_of}
use Rattle.seq_program.specs.MessageLines.{Parsed, quick_of, send_of, receive_of, write_of, read_of}
use Rattle.seq_program.specs.MessageLines.{call_of, block_write_of, block_read_of, block_call_of}
use Rattle.seq_program.specs.MessageLines.{alert_of}
use Rattle.seq_program.specs.JumpLines.{if_alert_of, if_of, above_of, again_of, goto_of}
use Rattle.seq_program.specs.PlainLines.{set_of, add_of, count_of, wait_of, end_of, fail_of}

-- the first words of lines that send a message, and end with `else L`
abbrev pub message_words : List (List ℕ × MessageWord)
message_words =
    (codes "quick", message.Quick)
    ∷ (codes "send", message.Send)
    ∷ (codes "receive", message.Receive)
    ∷ (codes "write", message.Write)
    ∷ (codes "read", message.Read)
    ∷ (codes "call", message.Call)
    ∷ (codes "blockwrite", message.BlockWrite)
    ∷ (codes "blockread", message.BlockRead)
    ∷ (codes "blockcall", message.BlockCall)
    ∷ (codes "alert", message.Alert)
    ∷ []

abbrev pub message_word : List ℕ → Option MessageWord
message_word word = named_among word message_words

-- those of lines that jump and send nothing, and end with `L`
abbrev pub jump_words : List (List ℕ × JumpWord)
jump_words =
    (codes "ifalert", jump.IfAlert)
    ∷ (codes "if", jump.If)
    ∷ (codes "above", jump.Above)
    ∷ (codes "again", jump.Again)
    ∷ (codes "goto", jump.Goto)
    ∷ []

abbrev pub jump_word : List ℕ → Option JumpWord
jump_word word = named_among word jump_words

-- those of the others
abbrev pub plain_words : List (List ℕ × PlainWord)
plain_words =
    (codes "set", plain.Set)
    ∷ (codes "add", plain.Add)
    ∷ (codes "count", plain.Count)
    ∷ (codes "wait", plain.Wait)
    ∷ (codes "end", plain.End)
    ∷ (codes "fail", plain.Fail)
    ∷ []

abbrev pub plain_word : List ℕ → Option PlainWord
plain_word word = named_among word plain_words

-- a label, at the end of so many words
unfoldable pub label_in : ℕ → ℕ → List ℕ → Result (List ℕ) ProgramFault
label_in n at' word = some_or (BadOperand n (misfit.Word at' operand.Label)) (label_of word)

-- the label behind `else`, at the end of so many words
unfoldable pub else_label : ℕ → ℕ → List ℕ → List ℕ → Result (List ℕ) ProgramFault
else_label n at' word label =
    if bytes_eq word (codes "else") then label_in n at' label
    else Err (BadOperand n (misfit.Word (at' - 1) operand.Else))

-- the words before `else L`, and the label, of at least two words
unfoldable pub split_else : ℕ → List (List ℕ) → Result (List (List ℕ) × List ℕ) ProgramFault
split_else n words = do
  label ← else_label n (length words) (slice_index_or words (length words - 2) [])
      (slice_index_or words (length words - 1) [])
  Ok (take (length words - 2) words, label)

-- the words before a label at the end, and the label, of at least one word
unfoldable pub split_label : ℕ → List (List ℕ) → Result (List (List ℕ) × List ℕ) ProgramFault
split_label n words = do
  label ← label_in n (length words) (slice_index_or words (length words - 1) [])
  Ok (take (length words - 1) words, label)

abbrev pub message_line : Board → ℕ → MessageWord → ℕ → List (List ℕ) → Parsed
message_line board n message.Quick place words = quick_of board n place words
message_line board n message.Send place words = send_of board n place words
message_line board n message.Receive place words = receive_of board n place words
message_line board n message.Write place words = write_of board n place words
message_line board n message.Read place words = read_of board n place words
message_line board n message.Call place words = call_of board n place words
message_line board n message.BlockWrite place words = block_write_of board n place words
message_line board n message.BlockRead place words = block_read_of board n place words
message_line board n message.BlockCall place words = block_call_of board n place words
message_line board n message.Alert place words = alert_of n place words

abbrev pub jump_line : ℕ → JumpWord → ℕ → List (List ℕ) → Parsed
jump_line n jump.IfAlert place words = if_alert_of n place words
jump_line n jump.If place words = if_of n place words
jump_line n jump.Above place words = above_of n place words
jump_line n jump.Again place words = again_of n place words
jump_line n jump.Goto place words = goto_of n place words

abbrev pub plain_line : ℕ → PlainWord → List (List ℕ) → Parsed
plain_line n plain.Set words = set_of n words
plain_line n plain.Add words = add_of n words
plain_line n plain.Count words = count_of n words
plain_line n plain.Wait words = wait_of n words
plain_line n plain.End words = end_of n words
plain_line n plain.Fail words = fail_of n words

-- where a label leads: to some place if it stands nowhere, since there the text is no program
abbrev pub jump_to : List Label → List ℕ → Jump
jump_to labels name = record {
  place = unwrap_or (place_of labels name) 0;
  is_known = is_some (place_of labels name);
}

-- an instruction whose label is known or not
abbrev pub line_instr : Bool → Parsed → Result LineInstr ProgramFault
line_instr is_known parsed = parsed >>= λ i. Ok (record { instr = i; is_known = is_known })

unfoldable pub message_of : Board → List Label → ℕ → MessageWord → List (List ℕ)
    → Result LineInstr ProgramFault
message_of board labels n word words = do
  all ← value_if (miscounted n (message_count word)) (length words == message_count word) words
  parts ← split_else n all
  line_instr (jump_to labels parts.1).is_known
      (message_line board n word (jump_to labels parts.1).place parts.0)

unfoldable pub jump_of : List Label → ℕ → JumpWord → List (List ℕ) → Result LineInstr ProgramFault
jump_of labels n word words = do
  all ← value_if (miscounted n (jump_count word)) (length words == jump_count word) words
  parts ← split_label n all
  line_instr (jump_to labels parts.1).is_known
      (jump_line n word (jump_to labels parts.1).place parts.0)

abbrev pub worded : Board → List Label → ℕ → Option MessageWord → Option JumpWord
    → Option PlainWord → List (List ℕ) → Result LineInstr ProgramFault
worded board labels n (Some word) jumping other words = message_of board labels n word words
worded board labels n None (Some word) other words = jump_of labels n word words
worded board labels n None None (Some word) words = line_instr true (plain_line n word words)
worded board labels n None None None words = Err (UnknownWord n)

-- what a line's words say
unfoldable pub instr_of : Board → List Label → ℕ → List ℕ → List (List ℕ)
    → Result LineInstr ProgramFault
instr_of board labels n word words =
    worded board labels n (message_word word) (jump_word word) (plain_word word) words
