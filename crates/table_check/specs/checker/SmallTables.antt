-- Worked tables of facts: small programs for a board with two rails, and a table for each.
use Rattle.std.specs.Prelude.{ℕ, negsuc, false, codes, List, [], ◌∷◌, Some, replicate}
use Rattle.smbus.specs.declared.message.Form.{Form}
use Rattle.smbus.specs.declared.message.Form.TheVariants.{WriteByte, WriteWord, ReadByte, ReadWord}
use Rattle.pmbus_table.specs.Codes.{page_code, operation_code, write_protect_code}
use Rattle.pmbus_table.specs.Codes.{vout_command_code, status_word_code}
use Rattle.board.specs.Boards.{Allow, Target, Rail, Board}
use Rattle.board.specs.Valid.{full_values, full_length}
use Rattle.seq_program.specs.declared.instr.Instr.{Instr}
use Rattle.seq_program.specs.declared.instr.Instr.TheVariants.{Write, Read, If, End, Fail}
use Rattle.seq_program.specs.declared.instr.Width.TheVariants as width
use Rattle.seq_program.specs.declared.instr.Written.TheVariants as written
use Rattle.facts.specs.declared.domain.source.Source.{Source}
use Rattle.facts.specs.declared.domain.source.Source.TheVariants as source
use Rattle.facts.specs.declared.domain.span.Span.{Span}
use Rattle.facts.specs.domain.Sets.{Set, empty, only}
use Rattle.facts.specs.domain.Rows.{Row}
use Rattle.facts.specs.duties.Duties.{one}
use Rattle.facts.specs.transfer.Edges.{good_bits}
use Rattle.table_check.specs.Tables.{Table}

-- a command in a form, with all values that the form has
abbrev pub entry : Form → ℕ → Allow
entry f code = record { form = f; code = code; values = full_values f; length = full_length }

abbrev pub entries : List Allow
entries =
    entry WriteByte page_code ∷ entry ReadByte page_code ∷ entry WriteByte operation_code
    ∷ entry WriteByte write_protect_code ∷ entry WriteWord vout_command_code
    ∷ entry ReadWord status_word_code ∷ []

-- a target with one page, which starts unprotected
abbrev pub small_target : ℕ → Target
small_target address = record {
  address = address;
  pages = 1;
  exponent = negsuc 11;  -- -12
  stretch = 0;
  alerts = false;
  start_pages = 0 ∷ [];
  start_protects = 0 ∷ [];
  allow = entries;
}

-- a rail on the page of a target
abbrev pub small_rail : ℕ → ℕ → List ℕ → Rail
small_rail target limit needs =
    record { target = target; page = 0; limit_uv = limit; needs = needs }

-- the second rail, of 3.3 volts at most, needs the first one, of 1.1 volts at most
abbrev pub two_rails : Board
two_rails = record {
  targets = small_target 0x40 ∷ small_target 0x41 ∷ [];
  target_names = codes "a" ∷ codes "b" ∷ [];
  rails = small_rail 0 1100000 [] ∷ small_rail 1 3300000 (0 ∷ []) ∷ [];
  rail_names = codes "va" ∷ codes "vb" ∷ [];
  foreign = [];
  foreign_bytes = 0;
  foreign_stretch = 0;
  contentions = 0;
}

-- both targets are on page 0 and unprotected; these rails are good, r0 is in a span and equals what
-- a source names, and all else is 0; so many ticks are left
abbrev pub row_at : Set → Span → Source → ℕ → Row
row_at good span s base = record {
  pages = only 0 ∷ only 0 ∷ [];
  protects = only 0 ∷ only 0 ∷ [];
  good = good;
  regs = span ∷ replicate 7 (one 0);
  sources = s ∷ replicate 7 source.None;
  counters = replicate 4 (one 0);
  lost = one 0;
  base = base;
  coeffs = replicate 4 0;
  lost_coeff = 0;
}

-- no rail is known to be good, and r0 is 0
abbrev pub known_row : ℕ → Row
known_row base = row_at empty (one 0) source.None base

-- a word as the first rail's voltage, in steps of 1/4096 volt: 4505 is within its limit, 4506 isn't
abbrev pub voltage_program : ℕ → List Instr
voltage_program word = Write 0 vout_command_code (written.Word word) 2 ∷ End ∷ Fail ∷ []

abbrev pub voltage_table : ℕ → Table
voltage_table base = Some (known_row base) ∷ Some (known_row 1) ∷ Some (known_row 1) ∷ []

abbrev pub a_word : Span
a_word = record { lo = 0; hi = 65535 }

-- r0 may be any word, and isn't known to equal anything
abbrev pub any_row : ℕ → Row
any_row base = row_at empty a_word source.None base

-- r0 is the last report of the first rail
abbrev pub reported_row : Set → ℕ → Row
reported_row good base = row_at good a_word (source.Status 0) base

-- turns on the first rail, asks for its status, and turns on the second one where the first reports
-- good; else, and where a message isn't done, it fails
abbrev pub ordered_program : List Instr
ordered_program =
    Write 0 operation_code (written.Byte 0x80) 6
    ∷ Read 0 status_word_code width.Word 0 6
    ∷ If 0 good_bits 0 4
    ∷ Fail
    ∷ Write 1 operation_code (written.Byte 0x80) 6
    ∷ End
    ∷ Fail
    ∷ []

-- the first rail is known to be good where the second one is turned on
abbrev pub ordered_table : Table
ordered_table =
    Some (known_row 317)
    ∷ Some (known_row 231)
    ∷ Some (reported_row empty 88)
    ∷ Some (any_row 1)
    ∷ Some (reported_row (only 0) 87)
    ∷ Some (any_row 1)
    ∷ Some (any_row 1)
    ∷ []

-- the same, but turns off the first rail before it turns on the second one
abbrev pub withdrawn_program : List Instr
withdrawn_program =
    Write 0 operation_code (written.Byte 0x80) 7
    ∷ Read 0 status_word_code width.Word 0 7
    ∷ If 0 good_bits 0 4
    ∷ Fail
    ∷ Write 0 operation_code (written.Byte 0x00) 7
    ∷ Write 1 operation_code (written.Byte 0x80) 7
    ∷ End
    ∷ Fail
    ∷ []

-- no rail is known to be good where the second one is turned on
abbrev pub withdrawn_table : Table
withdrawn_table =
    Some (known_row 1000)
    ∷ Some (known_row 800)
    ∷ Some (reported_row empty 600)
    ∷ Some (any_row 1)
    ∷ Some (reported_row (only 0) 500)
    ∷ Some (any_row 300)
    ∷ Some (any_row 1)
    ∷ Some (any_row 1)
    ∷ []
