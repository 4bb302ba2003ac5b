-- What write protection permits (PMBus 1.3 Part II, 11.1). That other values are invalid, and that
-- the values permit these codes, is this profile's.
use Rattle.std.specs.Prelude.{ℕ, List, [], ◌∷◌, ◌++◌, Bool, true, ◌==◌, Option, Some, None, is_some}
use Rattle.std.specs.Prelude.{option_map, if◌then◌else◌}
use Rattle.std.specs.List.{list_any}
use Rattle.pmbus_table.specs.Codes.{page_code, operation_code, on_off_config_code}
use Rattle.pmbus_table.specs.Codes.{write_protect_code, vout_command_code}

abbrev pub is_one_of : List ℕ → ℕ → Bool
is_one_of codes code = list_any (λ c. c == code) codes

-- the commands that 40h and 20h permit to write
abbrev pub permitted_at_40 : List ℕ
permitted_at_40 = write_protect_code ∷ operation_code ∷ page_code ∷ []

abbrev pub permitted_at_20 : List ℕ
permitted_at_20 = permitted_at_40 ++ on_off_config_code ∷ vout_command_code ∷ []

-- the codes whose writes a WRITE_PROTECT value permits: 80h its own alone, 00h all
abbrev pub permitted : ℕ → Option (ℕ → Bool)
permitted protect =
    if protect == 0x80 then Some (is_one_of (write_protect_code ∷ []))
    else if protect == 0x40 then Some (is_one_of permitted_at_40)
    else if protect == 0x20 then Some (is_one_of permitted_at_20)
    else if protect == 0x00 then Some (λ code. true)
    else None

-- the four values, the least first
abbrev pub protections : List ℕ
protections = 0x00 ∷ 0x20 ∷ 0x40 ∷ 0x80 ∷ []

-- whether a WRITE_PROTECT value is one of the four
abbrev pub is_protection : ℕ → Bool
is_protection protect = is_some (permitted protect)

-- whether a value permits a write of a code
abbrev pub permits : ℕ → ℕ → Option Bool
permits protect code = option_map (λ test. test code) (permitted protect)
