-- The lines of a program, each read after those before it.
use Rattle.std.specs.Prelude.{ℕ, ◌+◌, ◌≡◌, ◌↔◌, List, [], ◌∷◌, ◌++◌, length, Result, Ok, Err}
use Rattle.std.specs.Prelude.{codes}
use Rattle.texts.specs.Reading.{◌>>=◌}
use Rattle.board.specs.Boards.{Board}
use Rattle.seq_program.specs.declared.fault.ProgramFault.{ProgramFault}
use Rattle.seq_program.specs.declared.fault.ProgramFault.TheVariants.{UnknownWord}
use Rattle.seq_program.specs.Labels.{Label}
use Rattle.seq_program.specs.Passes.{InstrsSoFar, after_line, after_lines}
use Rattle.seq_program.specs.Programs.{no_pass}

-- what lines say where these are the labels of the text
abbrev pub all_lines : Board → List Label → List (List ℕ) → Result InstrsSoFar ProgramFault
all_lines board labels lines = after_lines board labels 1 no_pass lines

-- a line more is read after those before it
abbrev pub LinesInOrder : Type 0
LinesInOrder = (board : Board) (labels : List Label) (before : List (List ℕ)) (line : List ℕ)
    → all_lines board labels (before ++ line ∷ [])
    ≡ (all_lines board labels before >>=
    λ so_far. after_line board labels (1 + length before) so_far line)

-- the lines before one have no fault, and after them that one has it
pub record IsFirstFault (board : Board) (labels : List Label) (lines : List (List ℕ))
    (fault : ProgramFault) : Type 0 where
  pub before : List (List ℕ)
  pub line : List ℕ
  pub later : List (List ℕ)
  pub parts : lines ≡ before ++ line ∷ later
  pub so_far : InstrsSoFar
  pub reads : all_lines board labels before ≡ Ok so_far
  pub fails : after_line board labels (1 + length before) so_far line ≡ Err fault

-- the first fault of a line is told exactly where the lines before it have none
abbrev pub FirstFaultIsTold : Type 0
FirstFaultIsTold = (board : Board) (labels : List Label) (lines : List (List ℕ))
    (fault : ProgramFault)
    → (all_lines board labels lines ≡ Err fault) ↔ IsFirstFault board labels lines fault

-- a line is read, and the next one has a fault
abbrev pub SomeLineFails : Type 0
SomeLineFails = (board : Board)
    → IsFirstFault board [] (codes "end" ∷ codes "x" ∷ []) (UnknownWord 2)
