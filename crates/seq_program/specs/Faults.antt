-- The numbers, the names, the lines and the words of the faults.
use Rattle.std.specs.Prelude.{ℕ, List, Option, Some, None, codes}
use Rattle.seq_program.specs.declared.fault.Misfit.TheVariants as misfit
use Rattle.seq_program.specs.declared.fault.ProgramFault.{ProgramFault}
use Rattle.seq_program.specs.declared.fault.ProgramFault.TheVariants as fault

abbrev pub number_of : ProgramFault → ℕ
number_of fault.Memory = 1
number_of (fault.UnknownWord line) = 2
number_of (fault.BadNumber line word low high) = 3
number_of (fault.UnknownTarget line) = 4
number_of (fault.UnknownCommand line byte word) = 5
number_of (fault.UnknownLabel line) = 6
number_of (fault.SameLabel line) = 7
number_of (fault.NoEnd line) = 8
number_of (fault.TooLong line) = 9
number_of (fault.BadOperand line misfit) = 10

abbrev pub name_of : ProgramFault → List ℕ
name_of fault.Memory = codes "Memory"
name_of (fault.UnknownWord line) = codes "UnknownWord"
name_of (fault.BadNumber line word low high) = codes "BadNumber"
name_of (fault.UnknownTarget line) = codes "UnknownTarget"
name_of (fault.UnknownCommand line byte word) = codes "UnknownCommand"
name_of (fault.UnknownLabel line) = codes "UnknownLabel"
name_of (fault.SameLabel line) = codes "SameLabel"
name_of (fault.NoEnd line) = codes "NoEnd"
name_of (fault.TooLong line) = codes "TooLong"
name_of (fault.BadOperand line misfit) = codes "BadOperand"

abbrev pub line_of : ProgramFault → Option ℕ
line_of fault.Memory = None
line_of (fault.UnknownWord line) = Some line
line_of (fault.BadNumber line word low high) = Some line
line_of (fault.UnknownTarget line) = Some line
line_of (fault.UnknownCommand line byte word) = Some line
line_of (fault.UnknownLabel line) = Some line
line_of (fault.SameLabel line) = Some line
line_of (fault.NoEnd line) = Some line
line_of (fault.TooLong line) = Some line
line_of (fault.BadOperand line misfit) = Some line

-- the word that is to blame, where it isn't the whole line, or the label at its end
abbrev pub word_of : ProgramFault → Option ℕ
word_of fault.Memory = None
word_of (fault.UnknownWord line) = Some 0
word_of (fault.BadNumber line word low high) = Some word
word_of (fault.UnknownTarget line) = Some 1
word_of (fault.UnknownCommand line byte word) = Some 2
word_of (fault.UnknownLabel line) = None
word_of (fault.SameLabel line) = Some 0
word_of (fault.NoEnd line) = None
word_of (fault.TooLong line) = None
word_of (fault.BadOperand line (misfit.Count count)) = None
word_of (fault.BadOperand line (misfit.Word word operand)) = Some word
word_of (fault.BadOperand line misfit.NoVoltage) = Some 2
