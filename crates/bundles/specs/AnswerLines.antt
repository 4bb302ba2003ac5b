-- An answer line: the words of an answer, and then those that only a run has.
use Rattle.std.specs.Prelude.{ℕ, List, [], ◌∷◌, ◌==◌, length, Bool, true, false, Option, Some, None}
use Rattle.std.specs.Prelude.{Result, if◌then◌else◌, codes}
use Rattle.std.specs.Str.{bytes_eq}
use Rattle.texts.specs.Reading.{◌>>=◌, some_or, value_if}
use Rattle.texts.specs.Words.{words_of}
use Rattle.smbus.specs.Answered.{Answered}
use Rattle.bundles.specs.declared.fault.BundleFault.{BundleFault}
use Rattle.bundles.specs.declared.fault.BundleFault.TheVariants.{BadAnswer}
use Rattle.bundles.specs.declared.flaw.Flaw.{Flaw}
use Rattle.bundles.specs.declared.flaw.Key.TheVariants as keys
use Rattle.bundles.specs.Flaws.{bad_field, bad_word, told}
use Rattle.bundles.specs.Bundles.{Line}
use Rattle.bundles.specs.Fields.{value_of, rest_of, number_of}
use Rattle.bundles.specs.AnswerWords.{answer_of, past_bytes}
use Rattle.bundles.specs.ContenderWords.{contender_in, past_cholds}

-- `1`, or no word
abbrev pub took_of : Option (List ℕ) → Option Bool
took_of None = Some false
took_of (Some text) = if bytes_eq text (codes "1") then Some true else None

abbrev pub past_took : List Line → List Line
past_took words = rest_of (codes "took=") (past_bytes words)

abbrev pub past_alerts : List Line → List Line
past_alerts words = rest_of (codes "alerts=") (past_took words)

-- `took=1 alerts=DIGITS` behind the words of an answer, then those of another controller, and no
-- more
unfoldable pub answer_in : List Line → Result Answered Flaw
answer_in words = do
  answer ← answer_of words
  took ← some_or (bad_field keys.Took (past_bytes words))
      (took_of (value_of (codes "took=") (past_bytes words)))
  alerts ← some_or (bad_field keys.Alerts (past_took words))
      (number_of (value_of (codes "alerts=") (past_took words)))
  contender ← contender_in (past_alerts words)
  value_if (bad_word (past_cholds (past_alerts words)))
      (length (past_cholds (past_alerts words)) == 0)
      (record answer { took = took; alerts = alerts; contender = contender })

-- `-` alone stands for no words
abbrev pub without_dash : List Line → List Line
without_dash (word ∷ []) = if bytes_eq word (codes "-") then [] else word ∷ []
without_dash words = words

abbrev pub answer_line_of : ℕ → Line → Result Answered BundleFault
answer_line_of number line = told (BadAnswer number) (answer_in (without_dash (words_of line)))
