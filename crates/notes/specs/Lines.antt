-- The lines of a text by their numbers.
use Rattle.std.specs.Prelude.{◌≡◌, ◌==◌, ◌-◌, ℕ, List, Option, None, drop, slice_get}
use Rattle.std.specs.Prelude.{if◌then◌else◌}
use Rattle.texts.specs.Words.{lines_by_feed}
use Rattle.notes.specs.declared.lines.LineFinder.{LineFinder}

-- the line with this number, counted from 1
abbrev pub line_at : ℕ → List (List ℕ) → Option (List ℕ)
line_at number lines = if number == 0 then None else slice_get lines (number - 1)

-- what finds lines among these, and has passed some of them
pub record FindsIn (lines : List (List ℕ)) (f : LineFinder) : Type 0 where
  pub text : lines_by_feed f.text.now ≡ lines
  pub left : lines_by_feed f.left.now ≡ drop f.above lines

-- the same lines, so many passed
abbrev pub IsLeft : ℕ → LineFinder → LineFinder → Type 0
IsLeft above old new =
    (lines : List (List ℕ)) → FindsIn lines old → FindsIn lines new × new.above ≡ above

-- the line of a number among the lines, which stay the same
abbrev pub IsFound : ℕ → LineFinder → LineFinder → Option (List ℕ) → Type 0
IsFound number old new line =
    (lines : List (List ℕ)) → FindsIn lines old → FindsIn lines new × line ≡ line_at number lines
