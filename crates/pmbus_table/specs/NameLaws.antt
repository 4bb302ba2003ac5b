-- Names of commands.
use Rattle.std.specs.Prelude.{◌≡◌, ℕ, true, Some}
use Rattle.texts.specs.Hex.{pair_text}
use Rattle.pmbus_table.specs.Commands.{is_manufacturer, is_command, name_text, command_named}

-- a command's name names it
abbrev pub NamesReadBack : Type 0
NamesReadBack = (code : ℕ) → is_command code ≡ true → command_named (name_text code) ≡ Some code

-- a manufacturer command's name are the two digits of its code
abbrev pub ManufacturersAreDigits : Type 0
ManufacturersAreDigits = (code : ℕ) → is_manufacturer code ≡ true
    → name_text code ≡ pair_text code
