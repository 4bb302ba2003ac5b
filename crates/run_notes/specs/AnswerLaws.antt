-- The line that a note names for an index says the answer of that index.
use Rattle.std.specs.Prelude.{◌≡◌, ℕ, ◌+◌, List, Some, Ok, slice_get}
use Rattle.smbus.specs.Answered.{Answered}
use Rattle.bundles.specs.AnswerLines.{answer_line_of}
use Rattle.bundles.specs.Answers.{Answers, answers_in}
use Rattle.run_notes.specs.AnswerPlaces.{counted_line}
use Rattle.notes.specs.Lines.{line_at}

-- on the line with this number stands this answer
pub record TellsAnswer (lines : List (List ℕ)) (number : ℕ) (answer : Answered) : Type 0 where
  pub line : List ℕ
  pub stands : line_at number lines ≡ Some line
  pub reads : answer_line_of number line ≡ Ok answer

-- of lines that are read as answers, the line that is told for an index says the answer of that
-- index
abbrev pub AnswersAreFound : Type 0
AnswersAreFound = (lines : List (List ℕ)) (answers : Answers) (index : ℕ) (answer : Answered)
    → answers_in (record { first_line = 1; lines = lines }) ≡ Ok answers
    → slice_get answers.answers index ≡ Some answer
    → (number : ℕ) × (counted_line (index + 1) lines ≡ Some number)
    × TellsAnswer lines number answer
