-- The keys of messages and answers.
use Rattle.std.specs.Prelude.{◌≡◌, ℕ, List, map, Option, codes}
use Rattle.bundles.specs.declared.flaw.Key.{Key}
use Rattle.bundles.specs.declared.flaw.Key.TheVariants as keys
use Rattle.bundles.specs.MessageLines.{MessageValues, key_values}
use Rattle.bundles.specs.Spelled.{KeyValues, AnswerValues}
use Rattle.bundles.specs.SpelledAnswers.{AnswerLineValues}
use Rattle.bundles.specs.SpelledAnswers.{key_values as answer_line_values}

abbrev pub key_text : Key → List ℕ
key_text keys.Form = codes "form="
key_text keys.Address = codes "address="
key_text keys.Code = codes "code="
key_text keys.Out = codes "out="
key_text keys.Holds = codes "holds="
key_text keys.Refuse = codes "refuse="
key_text keys.Value = codes "value="
key_text keys.Bytes = codes "bytes="
key_text keys.Took = codes "took="
key_text keys.Alerts = codes "alerts="
key_text keys.Contender = codes "contender="
key_text keys.ContenderHolds = codes "cholds="

-- the keys of a line's words, in the order in which they are read
abbrev pub AreKeysOf : List Key → KeyValues → Type 0
AreKeysOf these words = map key_text these ≡ map (λ (word : List ℕ × Option (List ℕ)). word.0) words

abbrev pub AreMessageKeys : List Key → Type 0
AreMessageKeys these = (asked : MessageValues) (answered : AnswerValues)
    → AreKeysOf these (key_values asked answered)

abbrev pub AreAnswerKeys : List Key → Type 0
AreAnswerKeys these = (values : AnswerLineValues) → AreKeysOf these (answer_line_values values)
