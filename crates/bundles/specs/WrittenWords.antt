-- How lines are written, word by word. Private functions work with it; `AnswerLineTexts` says what
-- they give.
use Rattle.std.specs.Prelude.{◌≤◌, ◌<◌, ℕ, List, [], ◌∷◌, ◌++◌, length, ◌==◌, Option, Some, None}
use Rattle.std.specs.Prelude.{IfSome, All, if◌then◌else◌, codes}
use Rattle.texts.specs.Ascii as ascii
use Rattle.smbus.specs.Answered.{Answered}
use Rattle.smbus.specs.Contenders.{Contender}
use Rattle.bundles.specs.Spelled.{KeyValues}
use Rattle.bundles.specs.SpelledAnswers.{key_values}
use Rattle.bundles.specs.AnswerLineTexts.{said_values}

-- a space behind the words that stand there
abbrev pub spaced : List ℕ → List ℕ
spaced text = if length text == 0 then [] else text ++ ascii.space ∷ []

-- a word more, where there is a value
abbrev pub with_value : List ℕ → List ℕ → Option (List ℕ) → List ℕ
with_value text key None = text
with_value text key (Some value) = (spaced text ++ key) ++ value

abbrev pub with_values : List ℕ → KeyValues → List ℕ
with_values text [] = text
with_values text (first ∷ later) = with_values (with_value text first.0 first.1) later

-- the words of an answer, or `-`
abbrev pub or_dash : List ℕ → List ℕ
or_dash text = if length text == 0 then codes "-" else text

abbrev pub written_line : Answered → List ℕ
written_line a = or_dash (with_values [] (key_values (said_values a)))

-- ---- numbers of an answer are within their types

pub record IsTypedContender (c : Contender) : Type 0 where
  pub address : c.address ≤ 127
  pub bytes : All (λ byte. byte < 256) c.bytes

pub record IsTyped (a : Answered) : Type 0 where
  pub refuse : IfSome a.refuse (λ number. number ≤ 65535)
  pub value : a.value < 65536
  pub bytes : All (λ byte. byte < 256) a.bytes
  pub alerts : a.alerts < 65536
  pub contender : IfSome a.contender IsTypedContender
