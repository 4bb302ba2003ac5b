-- The program of a text: its instructions, or its first fault.
use Rattle.std.specs.Prelude.{ℕ, ◌-◌, List, [], length, slice_get, Bool, true, false, ◌&&◌, nat_lt}
use Rattle.std.specs.Prelude.{Option, Some, None, Result, Ok, Err}
use Rattle.std.specs.List.{list_all}
use Rattle.texts.specs.Reading.{◌>>=◌, value_if}
use Rattle.texts.specs.Words.{lines_by_feed}
use Rattle.board.specs.Boards.{Board}
use Rattle.seq_program.specs.declared.fault.ProgramFault.{ProgramFault}
use Rattle.seq_program.specs.declared.fault.ProgramFault.TheVariants.{UnknownLabel, NoEnd}
use Rattle.seq_program.specs.declared.instr.Instr.{Instr}
use Rattle.seq_program.specs.declared.instr.Instr.TheVariants as instr
use Rattle.seq_program.specs.Labels.{Label, labels_of}
use Rattle.seq_program.specs.Passes.{InstrsSoFar, after_lines}

-- the program ends there
abbrev pub is_end : Instr → Bool
is_end instr.End = true
is_end instr.Fail = true
is_end _ = false

abbrev pub is_some_end : Option Instr → Bool
is_some_end None = false
is_some_end (Some i) = is_end i

-- the last instruction ends, and no label stands after it
abbrev pub ends : List Label → List Instr → Bool
ends labels instrs =
    is_some_end (slice_get instrs (length instrs - 1))
    && list_all (λ (l : Label). nat_lt l.place (length instrs)) labels

-- what a text says before anything
abbrev pub no_pass : InstrsSoFar
no_pass = record { instrs = []; unknown = None }

-- the instructions, if no line's label is unknown
abbrev pub if_known : List Instr → Option ℕ → Result (List Instr) ProgramFault
if_known instrs None = Ok instrs
if_known instrs (Some n) = Err (UnknownLabel n)

-- the program of these lines
unfoldable pub program_in : Board → List (List ℕ) → Result (List Instr) ProgramFault
program_in board lines = do
  pass ← after_lines board (labels_of lines) 1 no_pass lines
  instrs ← if_known pass.instrs pass.unknown
  value_if (NoEnd (length lines)) (ends (labels_of lines) instrs) instrs

-- the program of a text, whose lines end with LF alone, or its first fault
abbrev pub program_of : Board → List ℕ → Result (List Instr) ProgramFault
program_of board text = program_in board (lines_by_feed text)
