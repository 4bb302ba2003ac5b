-- The lines that a text of answers is made of. Private functions work with it; `AnswerTexts` says
-- what the text gives.
use Rattle.std.specs.Prelude.{◌≡◌, ℕ, List, [], ◌∷◌, ◌++◌, true, false, Some, Ok, codes}
use Rattle.std.specs.Str.Lines.{lines}
use Rattle.texts.specs.Words.{words_of}
use Rattle.smbus.specs.Answered.{Answered}
use Rattle.bundles.specs.AnswerLines.{answer_line_of}
use Rattle.bundles.specs.Answers.{start_of}
use Rattle.bundles.specs.Bundles.{Line}
use Rattle.bundles.specs.Composed.{IsNoHeader, IsPlain}
use Rattle.bundles.specs.CountedLines.{is_counted, counted_lines}

-- with a line feed it is one line, and no header
pub record IsLine (line : Line) : Type 0 where
  pub whole : lines (line ++ codes "\n") ≡ line ∷ []
  pub no_header : IsNoHeader line

pub record IsLineOf (line : Line) (answer : Answered) : Type 0 where
  pub stands : IsLine line
  pub counted : is_counted line ≡ true
  pub says : (number : ℕ) → answer_line_of number line ≡ Ok answer

pub record IsStartOf (line : Line) (pages protects : List ℕ) : Type 0 where
  pub stands : IsLine line
  pub counted : is_counted line ≡ true
  pub says : start_of (words_of line) ≡ Some (pages, protects)

pub record IsComment (line : Line) : Type 0 where
  pub stands : IsLine line
  pub skipped : is_counted line ≡ false

-- whole lines, none of which counts
pub record SaysNothing (text : List ℕ) : Type 0 where
  pub plain : IsPlain text
  pub none : (number : ℕ)
      → counted_lines (record { first_line = number; lines = lines text }) ≡ []
