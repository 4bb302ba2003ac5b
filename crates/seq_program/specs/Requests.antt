-- What an instruction asks of a target, but for the words that registers hold (docs/PROGRAM.md).
use Rattle.std.specs.Prelude.{ℕ, Bool, List, [], ◌∷◌, length, Option, Some, None, option_map}
use Rattle.std.specs.Prelude.{unwrap_or, ◌/◌, ◌%◌, slice_index}
use Rattle.smbus.specs.declared.message.Form.{Form}
use Rattle.smbus.specs.declared.message.Form.TheVariants as form
use Rattle.seq_program.specs.declared.instr.Instr.{Instr}
use Rattle.seq_program.specs.declared.instr.Instr.TheVariants as instr
use Rattle.seq_program.specs.declared.instr.Width.{Width}
use Rattle.seq_program.specs.declared.instr.Width.TheVariants as width
use Rattle.seq_program.specs.declared.instr.Written.{Written}
use Rattle.seq_program.specs.declared.instr.Written.TheVariants as written

-- what is written behind the command
pub data Content : Type 0 where
  Nothing : Content
  Value : (value : Written) → Content
  Block : (bytes : List ℕ) → Content

-- a transaction but for its address: its form, its command, what is written, and the register that
-- what is read goes to (SMBus 3.2, 6.5)
pub record Transaction : Type 0 where
  pub form : Form
  pub command : Option ℕ
  pub content : Content
  pub register : Option ℕ

-- a transaction with a target, and where it leads if it isn't done
pub record Request : Type 0 where
  pub target : ℕ
  pub transaction : Transaction
  pub otherwise : ℕ

abbrev pub transaction : Form → Option ℕ → Content → Option ℕ → Transaction
transaction form command content register =
    record { form = form; command = command; content = content; register = register }

abbrev pub request : ℕ → Transaction → ℕ → Request
request target x otherwise = record { target = target; transaction = x; otherwise = otherwise }

-- the forms that read and write so much
abbrev pub read_form : Width → Form
read_form width.Byte = form.ReadByte
read_form width.Word = form.ReadWord

abbrev pub form_of : Written → Form
form_of (written.Byte value) = form.WriteByte
form_of (written.Word value) = form.WriteWord
form_of (written.Register register) = form.WriteWord

-- a transaction of each form
abbrev pub quick : Bool → Transaction
quick read = transaction (form.Quick read) None Nothing None

abbrev pub send : ℕ → Transaction
send code = transaction form.SendByte (Some code) Nothing None

abbrev pub receive : ℕ → Transaction
receive register = transaction form.ReceiveByte None Nothing (Some register)

abbrev pub write : ℕ → Written → Transaction
write code value = transaction (form_of value) (Some code) (Value value) None

abbrev pub read : ℕ → Width → ℕ → Transaction
read code size register = transaction (read_form size) (Some code) Nothing (Some register)

abbrev pub call : ℕ → ℕ → ℕ → Transaction
call code value register =
    transaction form.ProcessCall (Some code) (Value (written.Word value)) (Some register)

abbrev pub write_block : ℕ → List ℕ → Transaction
write_block code bytes = transaction form.BlockWrite (Some code) (Block bytes) None

abbrev pub read_block : ℕ → ℕ → Transaction
read_block code register = transaction form.BlockRead (Some code) Nothing (Some register)

abbrev pub call_block : ℕ → List ℕ → ℕ → Transaction
call_block code bytes register =
    transaction form.BlockProcessCall (Some code) (Block bytes) (Some register)

-- what an instruction sends to a target, if it does
abbrev pub request_in : Instr → Option Request
request_in (instr.Quick t reads l) = Some (request t (quick reads) l)
request_in (instr.Send t command l) = Some (request t (send command) l)
request_in (instr.Receive t register l) = Some (request t (receive register) l)
request_in (instr.Write t command value l) = Some (request t (write command value) l)
request_in (instr.Read t command size register l) =
    Some (request t (read command size register) l)
request_in (instr.Call t command value register l) =
    Some (request t (call command value register) l)
request_in (instr.BlockWrite t command bytes l) =
    Some (request t (write_block command bytes) l)
request_in (instr.BlockRead t command register l) =
    Some (request t (read_block command register) l)
request_in (instr.BlockCall t command bytes register l) =
    Some (request t (call_block command bytes register) l)
request_in _ = None

abbrev pub target_in : Instr → Option ℕ
target_in i = option_map (λ (r : Request). r.target) (request_in i)

-- the register that what is read goes to; of an alert response it is an address (SMBus 3.2,
-- appendix A)
abbrev pub other_result : Instr → Option ℕ
other_result (instr.Alert register otherwise) = Some register
other_result _ = None

abbrev pub result_by : Instr → Option Request → Option ℕ
result_by i (Some r) = r.transaction.register
result_by i None = other_result i

abbrev pub result_in : Instr → Option ℕ
result_in i = result_by i (request_in i)

-- where a message leads that isn't done
abbrev pub other_else : Instr → Option ℕ
other_else (instr.Alert register otherwise) = Some otherwise
other_else _ = None

abbrev pub else_by : Instr → Option Request → Option ℕ
else_by i (Some r) = Some r.otherwise
else_by i None = other_else i

abbrev pub else_in : Instr → Option ℕ
else_in i = else_by i (request_in i)

-- the code of a transaction, 0 where it carries none
abbrev pub code_in : Transaction → ℕ
code_in x = unwrap_or x.command 0

-- the bytes of a word, the low byte first
abbrev pub low_byte_first : ℕ → List ℕ
low_byte_first word = word % 256 ∷ word / 256 ∷ []

-- the data bytes of what is written, where the registers hold these words
abbrev pub data_of : List ℕ → Written → List ℕ
data_of registers (written.Byte value) = value ∷ []
data_of registers (written.Word value) = low_byte_first value
data_of registers (written.Register register) = low_byte_first (slice_index registers register)

abbrev pub bytes_in : List ℕ → Content → List ℕ
bytes_in registers Nothing = []
bytes_in registers (Value value) = data_of registers value
bytes_in registers (Block bytes) = bytes

abbrev pub data_in : List ℕ → Transaction → List ℕ
data_in registers x = bytes_in registers x.content

-- how many bytes of a block it writes
abbrev pub block_count : Content → ℕ
block_count (Block bytes) = length bytes
block_count _ = 0
