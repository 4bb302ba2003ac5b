-- Pages of a target that no rail of the board has.
use Rattle.std.specs.Prelude.{◌==◌, ◌&&◌, not, if◌then◌else◌, ℕ, Bool, false, Option, Some, None}
use Rattle.std.specs.Prelude.{slice_get}
use Rattle.std.specs.List.{list_any}
use Rattle.std.specs.Option.{option_map_or}
use Rattle.pmbus_table.specs.Codes.{operation_code}
use Rattle.pmbus_table.specs.Operation.{enables}
use Rattle.pmbus_table.specs.Voltage.{carries_voltage}
use Rattle.board.specs.Boards.{Rail, Board}
use Rattle.seq_program.specs.declared.instr.Instr.{Instr}
use Rattle.seq_program.specs.declared.instr.Instr.TheVariants as instr
use Rattle.seq_program.specs.declared.instr.Written.{Written}
use Rattle.seq_program.specs.declared.instr.Written.TheVariants as written
use Rattle.facts.specs.domain.Rows.{Row, set_at}
use Rattle.facts.specs.duties.Duties.{may_select}
use Rattle.program_lints.specs.Reached.{some_below}

-- a value that enables goes to OPERATION (PMBus 1.3 Part II, 12.1), or a word to a command that
-- carries a voltage
abbrev pub is_power : ℕ → Written → Bool
is_power code (written.Byte value) = code == operation_code && enables value
is_power code (written.Word value) = carries_voltage code
is_power code (written.Register register) = carries_voltage code

-- the target that an instruction writes such a value to
abbrev pub powered_target : Instr → Option ℕ
powered_target (instr.Write t code value otherwise) = if is_power code value then Some t else None
powered_target _ = None

abbrev pub is_rail_at : ℕ → ℕ → Rail → Bool
is_rail_at target page r = r.target == target && r.page == page

-- PAGE of a target may select a page (PMBus 1.3 Part II, 11.10) that no rail of the board has
abbrev pub selects_bare : Board → Row → ℕ → ℕ → Bool
selects_bare b row target page =
    may_select (set_at row.pages target) page
    && not (list_any (is_rail_at target page) b.rails)

-- it may select such a page of those that the target has
abbrev pub may_reach_bare : Board → Row → ℕ → Bool
may_reach_bare b row target =
    option_map_or (λ t. some_below (selects_bare b row target) t.pages)
    (slice_get b.targets target) false
