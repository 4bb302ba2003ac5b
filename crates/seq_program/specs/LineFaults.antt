-- The faults of a text's lines, each line by itself, beside the labels of all lines.
use Rattle.std.specs.Prelude.{ℕ, ◌+◌, ◌==◌, if◌then◌else◌, List, [], ◌∷◌, Result, Ok, Err}
use Rattle.std.specs.Prelude.{Option, Some, None, option_map}
use Rattle.board.specs.Boards.{Board}
use Rattle.seq_program.specs.declared.fault.ProgramFault.{ProgramFault}
use Rattle.seq_program.specs.declared.fault.ProgramFault.TheVariants.{UnknownLabel}
use Rattle.seq_program.specs.Labels.{Label, labels_of}
use Rattle.seq_program.specs.Passes.{InstrsSoFar, after_line}
use Rattle.seq_program.specs.Programs.{no_pass}

-- a line that can't be read, or whose label stands nowhere
abbrev pub fault_in : Result InstrsSoFar ProgramFault → Option ProgramFault
fault_in (Ok said) = option_map UnknownLabel said.unknown
fault_in (Err fault) = Some fault

-- the fault of the line with this number
abbrev pub line_fault : Board → List Label → ℕ → List ℕ → Option ProgramFault
line_fault board labels n line = fault_in (after_line board labels n no_pass line)

-- that of a line other than the one that is left out
abbrev pub fault_beside : Board → List Label → ℕ → ℕ → List ℕ → Option ProgramFault
fault_beside board labels left_out n line =
    if n == left_out then None else line_fault board labels n line

abbrev pub with_fault : Option ProgramFault → List ProgramFault → List ProgramFault
with_fault None faults = faults
with_fault (Some fault) faults = fault ∷ faults

-- those of the lines from the one with this number on
abbrev pub faults_from : Board → List Label → ℕ → ℕ → List (List ℕ) → List ProgramFault
faults_from board labels left_out n [] = []
faults_from board labels left_out n (line ∷ more) =
    with_fault (fault_beside board labels left_out n line)
    (faults_from board labels left_out (n + 1) more)

-- those of a text's lines other than this one
abbrev pub other_faults : Board → ℕ → List (List ℕ) → List ProgramFault
other_faults board line lines = faults_from board (labels_of lines) line 1 lines
