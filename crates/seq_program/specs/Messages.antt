-- The message that an instruction sends (SMBus 3.2, 6.5; words low byte first).
use Rattle.std.specs.Prelude.{ℕ, List, [], slice_get, Option, Some, None, option_map}
use Rattle.smbus.specs.Asked.{Asked}
use Rattle.smbus.specs.declared.message.Form.{Form}
use Rattle.smbus.specs.declared.message.Form.TheVariants as form
use Rattle.board.specs.Boards.{Board}
use Rattle.seq_program.specs.declared.instr.Instr.{Instr}
use Rattle.seq_program.specs.declared.instr.Instr.TheVariants as instr
use Rattle.seq_program.specs.Requests.{Request, request_in, code_in, data_in}

-- a message to a target, if the board has it
abbrev pub message_to : Board → ℕ → Form → ℕ → List ℕ → Option Asked
message_to board target form code out =
    option_map (λ t. record { address = t.address; form = form; code = code; out = out })
    (slice_get board.targets target)

-- to the alert response address (SMBus 3.2, appendix A)
abbrev pub alert_message : Asked
alert_message = record { address = 0x0C; form = form.Alert; code = 0; out = [] }

-- the message of a request, where the registers hold these words
abbrev pub message_for : Board → List ℕ → Request → Option Asked
message_for board registers r =
    message_to board r.target r.transaction.form (code_in r.transaction)
    (data_in registers r.transaction)

-- of an instruction that asks no target for anything
abbrev pub other_message : Instr → Option Asked
other_message (instr.Alert register otherwise) = Some alert_message
other_message _ = None

abbrev pub message_by : Board → List ℕ → Instr → Option Request → Option Asked
message_by board registers i (Some r) = message_for board registers r
message_by board registers i None = other_message i

abbrev pub message_of : Board → Instr → List ℕ → Option Asked
message_of board i registers = message_by board registers i (request_in i)
