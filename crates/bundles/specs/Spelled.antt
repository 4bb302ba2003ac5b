-- Words KEY=VALUE in the order of their keys, and the values that say an answer.
use Rattle.std.specs.Prelude.{◌≡◌, ℕ, List, [], ◌∷◌, ◌++◌, Option, Some, None, codes}
use Rattle.smbus.specs.Answered.{Answered}
use Rattle.bundles.specs.Bundles.{Line}
use Rattle.bundles.specs.Fields.{refuse_of, number_of, bytes_of}
use Rattle.bundles.specs.Holds.{holds_of}

-- keys with their values, which may be missing
abbrev pub KeyValues : Type 0
KeyValues = List (List ℕ × Option (List ℕ))

-- a word for each value that there is
abbrev pub spelled : KeyValues → List Line
spelled [] = []
spelled ((key, None) ∷ later) = spelled later
spelled ((key, Some value) ∷ later) = (key ++ value) ∷ spelled later

-- the values that messages and answers share
pub record AnswerValues : Type 0 where
  pub holds : Option (List ℕ)
  pub refuse : Option (List ℕ)
  pub value : Option (List ℕ)
  pub bytes : Option (List ℕ)

-- their keys in order, with others behind them
abbrev pub answer_key_values : AnswerValues → KeyValues → KeyValues
answer_key_values a later =
    (codes "holds=", a.holds) ∷ (codes "refuse=", a.refuse) ∷ (codes "value=", a.value)
    ∷ (codes "bytes=", a.bytes) ∷ later

-- what the values say of an answer
pub record SaysAnswer (said : AnswerValues) (answer : Answered) : Type 0 where
  pub holds : holds_of said.holds ≡ Some answer.holds
  pub refuse : refuse_of said.refuse ≡ Some answer.refuse
  pub value : number_of said.value ≡ Some answer.value
  pub bytes : bytes_of said.bytes ≡ Some answer.bytes
