-- The commands with a name: codes, names and transactions (PMBus 1.3 Part II, Appendix I, Command
-- Summary). Which of them PAGE selects, and which have no written form, is this profile's.
use Rattle.std.specs.Prelude.{ℕ, List, [], ◌∷◌, Bool, true, false, ◌==◌, Option, Some, None, find}
use Rattle.std.specs.Prelude.{codes}
use Rattle.std.specs.Str.{bytes_eq}
use Rattle.smbus.specs.declared.message.Form.{Form}
use Rattle.smbus.specs.declared.message.Form.TheVariants.{SendByte, WriteByte, WriteWord, ReadByte}
use Rattle.smbus.specs.declared.message.Form.TheVariants.{ReadWord, BlockRead, BlockProcessCall}

pub record Row : Type 0 where
  pub code : ℕ
  pub name : List ℕ
  pub written : Option Form
  pub read : Option Form
  pub paged : Bool

abbrev pub row : ℕ → List ℕ → Option Form → Option Form → Bool → Row
row c n w r p = record { code = c; name = n; written = w; read = r; paged = p }

-- code, name, form written, form read, paged
unfoldable pub table : List Row
table =
    row 0x00 (codes "PAGE") (Some WriteByte) (Some ReadByte) false
    ∷ row 0x01 (codes "OPERATION") (Some WriteByte) (Some ReadByte) true
    ∷ row 0x03 (codes "CLEAR_FAULTS") (Some SendByte) None true
    ∷ row 0x10 (codes "WRITE_PROTECT") (Some WriteByte) (Some ReadByte) false
    ∷ row 0x19 (codes "CAPABILITY") None (Some ReadByte) false
    ∷ row 0x1A (codes "QUERY") None (Some BlockProcessCall) false
    ∷ row 0x20 (codes "VOUT_MODE") None (Some ReadByte) true
    ∷ row 0x21 (codes "VOUT_COMMAND") (Some WriteWord) (Some ReadWord) true
    ∷ row 0x24 (codes "VOUT_MAX") (Some WriteWord) (Some ReadWord) true
    ∷ row 0x25 (codes "VOUT_MARGIN_HIGH") (Some WriteWord) (Some ReadWord) true
    ∷ row 0x26 (codes "VOUT_MARGIN_LOW") (Some WriteWord) (Some ReadWord) true
    ∷ row 0x40 (codes "VOUT_OV_FAULT_LIMIT") (Some WriteWord) (Some ReadWord) true
    ∷ row 0x42 (codes "VOUT_OV_WARN_LIMIT") (Some WriteWord) (Some ReadWord) true
    ∷ row 0x43 (codes "VOUT_UV_WARN_LIMIT") (Some WriteWord) (Some ReadWord) true
    ∷ row 0x44 (codes "VOUT_UV_FAULT_LIMIT") (Some WriteWord) (Some ReadWord) true
    ∷ row 0x78 (codes "STATUS_BYTE") None (Some ReadByte) true
    ∷ row 0x79 (codes "STATUS_WORD") None (Some ReadWord) true
    ∷ row 0x7A (codes "STATUS_VOUT") None (Some ReadByte) true
    ∷ row 0x7E (codes "STATUS_CML") None (Some ReadByte) true
    ∷ row 0x88 (codes "READ_VIN") None (Some ReadWord) false
    ∷ row 0x8B (codes "READ_VOUT") None (Some ReadWord) true
    ∷ row 0x8C (codes "READ_IOUT") None (Some ReadWord) true
    ∷ row 0x8D (codes "READ_TEMPERATURE_1") None (Some ReadWord) true
    ∷ row 0x98 (codes "PMBUS_REVISION") None (Some ReadByte) false
    ∷ row 0x99 (codes "MFR_ID") None (Some BlockRead) false
    ∷ []

-- the row of a code
abbrev pub row_of : ℕ → Option Row
row_of c = find (λ r. r.code == c) table

-- the row of a name
abbrev pub row_named : List ℕ → Option Row
row_named n = find (λ r. bytes_eq r.name n) table
