-- Which lines are messages: those whose words spell one, KEY=VALUE in the order of the keys.
use Rattle.std.specs.Prelude.{◌≡◌, ◌↔◌, ℕ, List, [], ◌∷◌, false, Option, Some, option_and_then, Ok}
use Rattle.std.specs.Prelude.{Err, None, codes}
use Rattle.texts.specs.Words.{words_of}
use Rattle.bundles.specs.declared.fault.BundleFault.{BundleFault}
use Rattle.bundles.specs.declared.fault.BundleFault.TheVariants.{BadMessage}
use Rattle.bundles.specs.declared.flaw.Flaw.{Flaw}
use Rattle.bundles.specs.declared.message.Exchange.{Exchange}
use Rattle.bundles.specs.Bundles.{Line}
use Rattle.bundles.specs.Fields.{bytes_of}
use Rattle.bundles.specs.Messages.{form_of, address_of, code_of, exchange_of}
use Rattle.bundles.specs.Spelled.{KeyValues, spelled, AnswerValues, answer_key_values, SaysAnswer}

-- the values that a message line may have before those of its answer
pub record MessageValues : Type 0 where
  pub form : Option (List ℕ)
  pub address : Option (List ℕ)
  pub code : Option (List ℕ)
  pub out : Option (List ℕ)

-- the keys in their order
abbrev pub key_values : MessageValues → AnswerValues → KeyValues
key_values m a =
    (codes "form=", m.form) ∷ (codes "address=", m.address) ∷ (codes "code=", m.code)
    ∷ (codes "out=", m.out) ∷ answer_key_values a []

-- a line that spells a message and its answer
pub record IsMessageLine (line : Line) (exchange : Exchange) : Type 0 where
  pub asked : MessageValues
  pub answered : AnswerValues
  pub words : words_of line ≡ spelled (key_values asked answered)
  pub form : option_and_then form_of asked.form ≡ Some exchange.message.form
  pub address : option_and_then (address_of exchange.message.form) asked.address
      ≡ Some exchange.message.address
  pub code : code_of exchange.message.form asked.code ≡ Some exchange.message.code
  pub out : bytes_of asked.out ≡ Some exchange.message.out
  pub says : SaysAnswer answered exchange.answer
  pub took : exchange.answer.took ≡ false
  pub alerts : exchange.answer.alerts ≡ 0
  pub contender : exchange.answer.contender ≡ None

abbrev pub MessageLinesAreRead : Type 0
MessageLinesAreRead = (number : ℕ) (line : Line) (exchange : Exchange)
    → (exchange_of number line ≡ Ok exchange) ↔ IsMessageLine line exchange

-- every other line is a bad message, for some flaw of it
abbrev pub OtherLinesAreBad : Type 0
OtherLinesAreBad = (number : ℕ) (line : Line) (fault : BundleFault)
    → exchange_of number line ≡ Err fault → (flaw : Flaw) × (fault ≡ BadMessage number flaw)
