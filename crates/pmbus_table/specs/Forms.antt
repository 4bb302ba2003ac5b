-- Forms of the bus as tests.
use Rattle.std.specs.Prelude.{ℕ, Bool, true, false, ◌==◌, Option, Some, None}
use Rattle.smbus.specs.declared.message.Form.{Form}
use Rattle.smbus.specs.declared.message.Form.TheVariants as form

-- forms in the order of their words, to compare them
abbrev pub form_number : Form → ℕ
form_number (form.Quick false) = 0
form_number (form.Quick true) = 1
form_number form.SendByte = 2
form_number form.ReceiveByte = 3
form_number form.WriteByte = 4
form_number form.WriteWord = 5
form_number form.ReadByte = 6
form_number form.ReadWord = 7
form_number form.ProcessCall = 8
form_number form.BlockWrite = 9
form_number form.BlockRead = 10
form_number form.BlockProcessCall = 11
form_number form.Alert = 12

-- whether there is a form, and it is this one
abbrev pub is_form : Form → Option Form → Bool
is_form f None = false
is_form f (Some g) = form_number f == form_number g
