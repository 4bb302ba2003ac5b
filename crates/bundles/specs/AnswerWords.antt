-- The words of an answer: how long each slot is held, which byte is refused, and what is read.
use Rattle.std.specs.Prelude.{ℕ, List, false, None, Result, Ok, codes}
use Rattle.texts.specs.Reading.{◌>>=◌, some_or}
use Rattle.smbus.specs.Answered.{Answered}
use Rattle.bundles.specs.declared.flaw.Flaw.{Flaw}
use Rattle.bundles.specs.declared.flaw.Key.TheVariants as keys
use Rattle.bundles.specs.Flaws.{bad_field}
use Rattle.bundles.specs.Fields.{value_of, rest_of, refuse_of, number_of, bytes_of}
use Rattle.bundles.specs.Holds.{holds_of}

abbrev pub past_holds : List (List ℕ) → List (List ℕ)
past_holds words = rest_of (codes "holds=") words

abbrev pub past_refuse : List (List ℕ) → List (List ℕ)
past_refuse words = rest_of (codes "refuse=") (past_holds words)

abbrev pub past_value : List (List ℕ) → List (List ℕ)
past_value words = rest_of (codes "value=") (past_refuse words)

abbrev pub past_bytes : List (List ℕ) → List (List ℕ)
past_bytes words = rest_of (codes "bytes=") (past_value words)

-- `holds=SLOT:K,.. refuse=N value=DIGITS bytes=PAIRS`, each of which may be missing
unfoldable pub answer_of : List (List ℕ) → Result Answered Flaw
answer_of words = do
  holds ← some_or (bad_field keys.Holds words) (holds_of (value_of (codes "holds=") words))
  refuse ← some_or (bad_field keys.Refuse (past_holds words))
      (refuse_of (value_of (codes "refuse=") (past_holds words)))
  value ← some_or (bad_field keys.Value (past_refuse words))
      (number_of (value_of (codes "value=") (past_refuse words)))
  bytes ← some_or (bad_field keys.Bytes (past_value words))
      (bytes_of (value_of (codes "bytes=") (past_value words)))
  Ok (record {
    holds = holds;
    refuse = refuse;
    value = value;
    bytes = bytes;
    took = false;
    alerts = 0;
    contender = None;
  })
