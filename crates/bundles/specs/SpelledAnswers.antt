-- Which lines are answers: `-`, and those whose words spell one, KEY=VALUE in the order of the
-- keys.
use Rattle.std.specs.Prelude.{◌≡◌, ◌↔◌, ℕ, List, [], ◌∷◌, Option, option_and_then, Some, Ok, Err}
use Rattle.std.specs.Prelude.{codes}
use Rattle.texts.specs.Words.{words_of}
use Rattle.smbus.specs.Answered.{Answered}
use Rattle.bundles.specs.declared.fault.BundleFault.{BundleFault}
use Rattle.bundles.specs.declared.fault.BundleFault.TheVariants.{BadAnswer}
use Rattle.bundles.specs.declared.flaw.Flaw.{Flaw}
use Rattle.bundles.specs.Bundles.{Line}
use Rattle.bundles.specs.Fields.{number_of}
use Rattle.bundles.specs.ContenderWords.{contender_of, with_holds}
use Rattle.bundles.specs.AnswerLines.{took_of, without_dash, answer_line_of}
use Rattle.bundles.specs.Spelled.{KeyValues, spelled, AnswerValues, answer_key_values, SaysAnswer}

-- the values that an answer line may have
pub record AnswerLineValues : Type 0 where
  pub answer : AnswerValues
  pub took : Option (List ℕ)
  pub alerts : Option (List ℕ)
  pub contender : Option (List ℕ)
  pub cholds : Option (List ℕ)

-- the keys in their order
abbrev pub key_values : AnswerLineValues → KeyValues
key_values values =
    answer_key_values values.answer
    ((codes "took=", values.took) ∷ (codes "alerts=", values.alerts)
    ∷ (codes "contender=", values.contender) ∷ (codes "cholds=", values.cholds) ∷ [])

-- a line that spells an answer
pub record IsAnswerLine (line : Line) (answer : Answered) : Type 0 where
  pub values : AnswerLineValues
  pub words : without_dash (words_of line) ≡ spelled (key_values values)
  pub says : SaysAnswer values.answer answer
  pub took : took_of values.took ≡ Some answer.took
  pub alerts : number_of values.alerts ≡ Some answer.alerts
  pub contender : option_and_then (λ said. with_holds said values.cholds)
      (contender_of values.contender) ≡ Some answer.contender

abbrev pub AnswerLinesAreRead : Type 0
AnswerLinesAreRead = (number : ℕ) (line : Line) (answer : Answered)
    → (answer_line_of number line ≡ Ok answer) ↔ IsAnswerLine line answer

-- every other line is a bad answer, for some flaw of it
abbrev pub OtherLinesAreBad : Type 0
OtherLinesAreBad = (number : ℕ) (line : Line) (fault : BundleFault)
    → answer_line_of number line ≡ Err fault → (flaw : Flaw) × (fault ≡ BadAnswer number flaw)
