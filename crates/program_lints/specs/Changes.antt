-- What an instruction at a row does to the power of rails on the way to a place.
use Rattle.std.specs.Prelude.{◌≡◌, ◌⊎◌, ℕ, Bool, true, false, IsTrue, slice_get, Some}
use Rattle.pmbus_table.specs.Codes.{operation_code}
use Rattle.pmbus_table.specs.Operation.{enables}
use Rattle.pmbus_table.specs.Voltage.{carries_voltage}
use Rattle.board.specs.Boards.{Rail, Board}
use Rattle.seq_program.specs.declared.instr.Instr.{Instr}
use Rattle.seq_program.specs.declared.instr.Instr.TheVariants as instr
use Rattle.seq_program.specs.declared.instr.Written.{Written}
use Rattle.seq_program.specs.declared.instr.Written.TheVariants as written
use Rattle.simulator.specs.Reports.{selects}
use Rattle.facts.specs.domain.Rows.{Row, set_at}
use Rattle.facts.specs.domain.Sets.{Set}
use Rattle.facts.specs.duties.Duties.{is_touched}

-- rail d is one of target i, and each PAGE that the target may store selects it
pub record IsSelected (b : Board) (row : Row) (i d : ℕ) : Type 0 where
  pub rail : Rail
  pub at : slice_get b.rails d ≡ Some rail
  pub on_target : rail.target ≡ i
  pub pages : (page : ℕ) → IsTrue (set_at row.pages i page) → IsTrue (selects page rail.page)

-- a value that enables is written to OPERATION (PMBus 1.3 Part II, 12.1), and touches the rail
pub record MayTurnOn (b : Board) (row : Row) (i : Instr) (d : ℕ) : Type 0 where
  pub target : ℕ
  pub value : ℕ
  pub otherwise : ℕ
  pub is : i ≡ instr.Write target operation_code (written.Byte value) otherwise
  pub on : enables value ≡ true
  pub touched : IsTrue (is_touched b row target d)

-- a value that doesn't enable is written to OPERATION while PAGE selects the rail. The message is
-- done, since one that isn't leads to the `else` label.
pub record TurnsOff (b : Board) (row : Row) (i : Instr) (to d : ℕ) : Type 0 where
  pub target : ℕ
  pub value : ℕ
  pub otherwise : ℕ
  pub is : i ≡ instr.Write target operation_code (written.Byte value) otherwise
  pub off : enables value ≡ false
  pub done : to ≡ otherwise → ⊥
  pub selected : IsSelected b row target d

abbrev pub is_word : Written → Bool
is_word (written.Byte value) = false
is_word (written.Word value) = true
is_word (written.Register register) = true

-- the instruction writes a word to a command of a target that sets a voltage
pub record WritesWord (i : Instr) (target otherwise : ℕ) : Type 0 where
  pub code : ℕ
  pub value : Written
  pub is : i ≡ instr.Write target code value otherwise
  pub word : IsTrue (is_word value)
  pub voltage : IsTrue (carries_voltage code)

-- and does so while PAGE selects the rail, and the message is done
pub record SetsVoltage (b : Board) (row : Row) (i : Instr) (to d : ℕ) : Type 0 where
  pub target : ℕ
  pub otherwise : ℕ
  pub write : WritesWord i target otherwise
  pub done : to ≡ otherwise → ⊥
  pub selected : IsSelected b row target d

-- what is sure of a rail after the instruction, from the rails of which it was sure before
abbrev pub After : Type 1
After = Board → Row → Instr → ℕ → Set → ℕ → Type 0

-- the rail is off
abbrev pub IsOffAfter : After
IsOffAfter b row i to before d =
    (IsTrue (before d) ⊎ TurnsOff b row i to d) × (MayTurnOn b row i d → ⊥)

-- a voltage was written to the rail
abbrev pub HasVoltageAfter : After
HasVoltageAfter b row i to before d = IsTrue (before d) ⊎ SetsVoltage b row i to d
