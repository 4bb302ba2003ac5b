-- The lines of a program's instructions.
use Rattle.std.specs.Prelude.{ℕ, List, Bool, Option, not, is_some, ◌&&◌, length, nat_lt, map}
use Rattle.std.specs.Prelude.{filter}
use Rattle.std.specs.Prelude.{slice_get}
use Rattle.std.specs.List.{enumerate_from}
use Rattle.texts.specs.Cuts.{without_comment}
use Rattle.texts.specs.Words.{words_of}
use Rattle.seq_program.specs.Labels.{label_in}

-- a word stands before the comment, and the line is no label
abbrev pub has_instruction : List ℕ → Bool
has_instruction line =
    nat_lt 0 (length (words_of (without_comment line)))
    && not (is_some (label_in (words_of (without_comment line))))

-- the numbers of the lines with the instructions of all places
abbrev pub place_lines : List (List ℕ) → List ℕ
place_lines lines =
    map (λ (n : ℕ × List ℕ). n.0)
    (filter (λ (n : ℕ × List ℕ). has_instruction n.1) (enumerate_from 1 lines))

-- the number of the line with the instruction of a place
abbrev pub place_line : ℕ → List (List ℕ) → Option ℕ
place_line place lines = slice_get (place_lines lines) place
