-- Commands by their code: the named ones of the table, and the manufacturer's.
use Rattle.std.specs.Prelude.{ℕ, List, Bool, true, false, ◌&&◌, ◌||◌, ◌==◌, not, nat_le, Option}
use Rattle.std.specs.Prelude.{Some, None, is_some, option_map, option_and_then, unwrap_or}
use Rattle.std.specs.Prelude.{if◌then◌else◌}
use Rattle.smbus.specs.declared.message.Form.{Form}
use Rattle.smbus.specs.declared.message.Form.TheVariants as form
use Rattle.texts.specs.Hex.{pair_of, pair_text}
use Rattle.pmbus_table.specs.Codes.{clear_faults_code}
use Rattle.pmbus_table.specs.Table.{Row, row_of, row_named}
use Rattle.pmbus_table.specs.Forms.{is_form}

-- MFR_SPECIFIC_00 to MFR_SPECIFIC_45, D0h to FDh (PMBus 1.3 Part II, Appendix I)
abbrev pub is_manufacturer : ℕ → Bool
is_manufacturer code = nat_le 0xD0 code && nat_le code 0xFD

abbrev pub is_command : ℕ → Bool
is_command code = is_manufacturer code || is_some (row_of code)

-- the command of a code
abbrev pub command_at : ℕ → Option ℕ
command_at code = if is_command code then Some code else None

-- the name of the table, or a manufacturer command's two digits
abbrev pub name_text : ℕ → List ℕ
name_text code = unwrap_or (option_map (λ r. r.name) (row_of code)) (pair_text code)

-- the manufacturer command of two digits
abbrev pub manufacturer_named : List ℕ → Option ℕ
manufacturer_named name =
    option_and_then (λ code. if is_manufacturer code then Some code else None) (pair_of name)

-- the command of a name's row, or of two digits
abbrev pub command_in : List ℕ → Option Row → Option ℕ
command_in name (Some r) = Some r.code
command_in name None = manufacturer_named name

-- the command of a name
abbrev pub command_named : List ℕ → Option ℕ
command_named name = command_in name (row_named name)

-- the forms of a named command
abbrev pub form_written : ℕ → Option Form
form_written code = option_and_then (λ r. r.written) (row_of code)

abbrev pub form_read : ℕ → Option Form
form_read code = option_and_then (λ r. r.read) (row_of code)

-- whether PAGE selects what the command is about (this profile)
abbrev pub is_paged : ℕ → Bool
is_paged code = unwrap_or (option_map (λ r. r.paged) (row_of code)) false

-- the forms of a manufacturer command (this profile)
abbrev pub is_manufacturer_form : Form → Bool
is_manufacturer_form form.SendByte = true
is_manufacturer_form form.WriteByte = true
is_manufacturer_form form.WriteWord = true
is_manufacturer_form form.ReadByte = true
is_manufacturer_form form.ReadWord = true
is_manufacturer_form form.ProcessCall = true
is_manufacturer_form form.BlockWrite = true
is_manufacturer_form form.BlockRead = true
is_manufacturer_form form.BlockProcessCall = true
is_manufacturer_form _ = false

-- those of them that only read
abbrev pub is_plain_read : Form → Bool
is_plain_read form.ReadByte = true
is_plain_read form.ReadWord = true
is_plain_read form.BlockRead = true
is_plain_read _ = false

-- whether a command takes a form
abbrev pub takes_form : ℕ → Form → Bool
takes_form code f =
    if is_manufacturer code then is_manufacturer_form f
    else is_form f (form_written code) || is_form f (form_read code)

-- whether a command in a form counts as a write for WRITE_PROTECT (this profile)
abbrev pub counts_as_write : ℕ → Form → Bool
counts_as_write code f =
    if is_manufacturer code then is_manufacturer_form f && not (is_plain_read f)
    else is_form f (form_written code) && not (code == clear_faults_code)
