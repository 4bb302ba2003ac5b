-- The words of another controller: its address byte and its data, and how long its slots are held.
use Rattle.std.specs.Prelude.{ℕ, ◌/◌, ◌%◌, ◌==◌, List, [], Option, Some, None, option_map}
use Rattle.std.specs.Prelude.{option_and_then, Result, codes}
use Rattle.texts.specs.Ascii as ascii
use Rattle.texts.specs.Hex.{pair_of, pairs_of}
use Rattle.texts.specs.Reading.{◌>>=◌, some_or}
use Rattle.smbus.specs.Contenders.{Contender}
use Rattle.bundles.specs.declared.flaw.Flaw.{Flaw}
use Rattle.bundles.specs.declared.flaw.Key.TheVariants as keys
use Rattle.bundles.specs.Flaws.{bad_field}
use Rattle.bundles.specs.Bundles.{Line}
use Rattle.bundles.specs.Fields.{value_of, rest_of, cut_at}
use Rattle.bundles.specs.Holds.{holds_of}

-- an address with a direction, and the data bytes
abbrev pub contender_from : ℕ → List ℕ → Contender
contender_from byte bytes =
    record { address = byte / 2; read = byte % 2 == 1; bytes = bytes; holds = [] }

-- `HH:PAIRS`, where there may be no pair
unfoldable pub contender_said : List ℕ → Option Contender
contender_said text =
    option_and_then (λ (sides : List ℕ × List ℕ). option_and_then (λ byte.
    option_map (contender_from byte) (pairs_of sides.1)) (pair_of sides.0))
    (cut_at ascii.colon text)

abbrev pub contender_of : Option (List ℕ) → Option (Option Contender)
contender_of None = Some None
contender_of (Some text) = option_map Some (contender_said text)

-- its holds, which stand behind a controller alone
abbrev pub with_holds : Option Contender → Option (List ℕ) → Option (Option Contender)
with_holds None None = Some None
with_holds None (Some text) = None
with_holds (Some c) text = option_map (λ holds. Some (record c { holds = holds })) (holds_of text)

abbrev pub past_contender : List Line → List Line
past_contender words = rest_of (codes "contender=") words

abbrev pub past_cholds : List Line → List Line
past_cholds words = rest_of (codes "cholds=") (past_contender words)

-- `contender=HH:PAIRS cholds=SLOT:K,..`, or neither
unfoldable pub contender_in : List Line → Result (Option Contender) Flaw
contender_in words = do
  said ← some_or (bad_field keys.Contender words)
      (contender_of (value_of (codes "contender=") words))
  some_or (bad_field keys.ContenderHolds (past_contender words))
      (with_holds said (value_of (codes "cholds=") (past_contender words)))
