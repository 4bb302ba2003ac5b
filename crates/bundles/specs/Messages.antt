-- A message line: what the controller asks, and the answer that it gets.
use Rattle.std.specs.Prelude.{ℕ, ◌+◌, List, [], ◌∷◌, ◌==◌, length, not, ◌&&◌, nat_le, Option, Some}
use Rattle.std.specs.Prelude.{None, option_and_then, Result, Ok, Err, if◌then◌else◌, codes}
use Rattle.std.specs.Str.{bytes_eq}
use Rattle.texts.specs.Reading.{◌>>=◌, some_or, value_if}
use Rattle.texts.specs.Words.{words_of}
use Rattle.texts.specs.Hex.{pair_of}
use Rattle.smbus.specs.Asked.{Asked}
use Rattle.smbus.specs.declared.message.Form.{Form}
use Rattle.smbus.specs.declared.message.Form.TheVariants as forms
use Rattle.smbus.specs.FormWords.{form_named, carries_code}
use Rattle.bundles.specs.declared.fault.BundleFault.{BundleFault}
use Rattle.bundles.specs.declared.fault.BundleFault.TheVariants.{BadMessage}
use Rattle.bundles.specs.declared.flaw.Flaw.{Flaw}
use Rattle.bundles.specs.declared.flaw.Flaw.TheVariants.{NoLine, Second}
use Rattle.bundles.specs.declared.flaw.Key.TheVariants as keys
use Rattle.bundles.specs.declared.message.Exchange.{Exchange}
use Rattle.bundles.specs.Bundles.{Line, Section}
use Rattle.bundles.specs.Fields.{value_of, rest_of, bytes_of}
use Rattle.bundles.specs.Flaws.{bad_field, bad_word, told}
use Rattle.bundles.specs.AnswerWords.{answer_of, past_bytes}
use Rattle.bundles.specs.CountedLines.{counted_lines}

-- two digits exactly where the form takes a code
abbrev pub code_of : Form → Option (List ℕ) → Option ℕ
code_of form None = if carries_code form then None else Some 0
code_of form (Some text) = if carries_code form then pair_of text else None

-- the word of a form; `alert` is the alert response (SMBus 3.2, appendix A)
abbrev pub form_of : List ℕ → Option Form
form_of text = if bytes_eq text (codes "alert") then Some forms.Alert else form_named text

-- seven bits, and the alert response address exactly for an alert
abbrev pub address_for : Form → ℕ → Option ℕ
address_for forms.Alert address = if address == 0x0C then Some address else None
address_for _ address = if nat_le address 127 && not (address == 0x0C) then Some address else None

abbrev pub address_of : Form → List ℕ → Option ℕ
address_of form text = option_and_then (address_for form) (pair_of text)

-- ---- the words of a line, in order

abbrev pub past_form : List (List ℕ) → List (List ℕ)
past_form words = rest_of (codes "form=") words

abbrev pub past_address : List (List ℕ) → List (List ℕ)
past_address words = rest_of (codes "address=") (past_form words)

abbrev pub past_code : List (List ℕ) → List (List ℕ)
past_code words = rest_of (codes "code=") (past_address words)

abbrev pub past_asked : List (List ℕ) → List (List ℕ)
past_asked words = rest_of (codes "out=") (past_code words)

-- `form=F address=HH code=HH out=PAIRS`
unfoldable pub asked_of : List (List ℕ) → Result Asked Flaw
asked_of words = do
  form ← some_or (bad_field keys.Form words)
      (option_and_then form_of (value_of (codes "form=") words))
  address ← some_or (bad_field keys.Address (past_form words))
      (option_and_then (address_of form) (value_of (codes "address=") (past_form words)))
  code ← some_or (bad_field keys.Code (past_address words))
      (code_of form (value_of (codes "code=") (past_address words)))
  out ← some_or (bad_field keys.Out (past_code words))
      (bytes_of (value_of (codes "out=") (past_code words)))
  Ok (record { address = address; form = form; code = code; out = out })

-- what the controller asks, and then the answer
unfoldable pub exchange_said : List (List ℕ) → Result Exchange Flaw
exchange_said words = do
  message ← asked_of words
  answer ← answer_of (past_asked words)
  whole ← value_if (bad_word (past_bytes (past_asked words)))
      (length (past_bytes (past_asked words)) == 0) answer
  Ok (record { message = message; answer = whole })

abbrev pub exchange_of : ℕ → Line → Result Exchange BundleFault
exchange_of number line = told (BadMessage number) (exchange_said (words_of line))

-- the one line that counts: where there is none, the fault is at the line below the bundle's last,
-- and where there is a second, at that
unfoldable pub only_exchange : ℕ → List (ℕ × Line) → Result Exchange BundleFault
only_exchange last [] = Err (BadMessage last NoLine)
only_exchange last (first ∷ []) = exchange_of first.0 first.1
only_exchange last (first ∷ second ∷ later) = exchange_of first.0 first.1 >>= λ exchange.
    Err (BadMessage second.0 Second)

abbrev pub exchange_in : Section → Result Exchange BundleFault
exchange_in section =
    only_exchange (section.first_line + length section.lines) (counted_lines section)
