-- What a note on a board file, or a warning of it, names.
use Rattle.std.specs.Prelude.{◌≡◌, ◌≢◌, ℕ, List, Option, Some, IsSome, IsSomeAnd, codes}
use Rattle.texts.specs.Words.{lines_by_feed}
use Rattle.notes.specs.declared.level.Level.{Level}
use Rattle.notes.specs.declared.level.Level.TheVariants.{Error}
use Rattle.notes.specs.declared.note.Note.{Note}
use Rattle.notes.specs.Lines.{line_at}
use Rattle.notes.specs.Notes.{IsOn}
use Rattle.text_notes.specs.declared.boards.lines.SayingLine.{SayingLine}

-- the number of one of these lines, or 1 where there is none
abbrev pub IsLineNumber : List (List ℕ) → ℕ → Type 0
IsLineNumber lines number = number ≢ 1 → IsSome (line_at number lines)

-- one of these lines with its number
abbrev pub IsNumbered : List (List ℕ) → SayingLine → Type 0
IsNumbered lines l = line_at l.number lines ≡ Some l.line.now

-- a note of a level on one of the lines of a board
abbrev pub IsOnBoardLine : Level → List (List ℕ) → Note → Type 0
IsOnBoardLine level lines note =
    (number : ℕ) × (IsLineNumber lines number × IsOn level (codes "%board") number lines note)

-- a note on a line of the board section with this text
abbrev pub IsOnSomeLine : List ℕ → Option Note → Type 0
IsOnSomeLine text note = IsSomeAnd note (IsOnBoardLine Error (lines_by_feed text))
