-- How many words stand behind the first word of a line.
use Rattle.std.specs.Prelude.{ℕ}
use Rattle.seq_program.specs.declared.fault.Misfit.TheVariants as misfit
use Rattle.seq_program.specs.declared.fault.ProgramFault.{ProgramFault}
use Rattle.seq_program.specs.declared.fault.ProgramFault.TheVariants.{BadOperand}
use Rattle.seq_program.specs.declared.line_word.MessageWord.{MessageWord}
use Rattle.seq_program.specs.declared.line_word.MessageWord.TheVariants as message
use Rattle.seq_program.specs.declared.line_word.JumpWord.{JumpWord}
use Rattle.seq_program.specs.declared.line_word.JumpWord.TheVariants as jump

-- another number of words
abbrev pub miscounted : ℕ → ℕ → ProgramFault
miscounted n count = BadOperand n (misfit.Count count)

-- with `else L`
abbrev pub message_count : MessageWord → ℕ
message_count message.Quick = 4
message_count message.Send = 4
message_count message.Receive = 4
message_count message.Write = 5
message_count message.Read = 5
message_count message.Call = 6
message_count message.BlockWrite = 5
message_count message.BlockRead = 5
message_count message.BlockCall = 6
message_count message.Alert = 3

-- with `L`
abbrev pub jump_count : JumpWord → ℕ
jump_count jump.IfAlert = 1
jump_count jump.If = 4
jump_count jump.Above = 3
jump_count jump.Again = 2
jump_count jump.Goto = 1
