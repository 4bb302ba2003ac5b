-- What every instruction and every program keeps to, whatever text it was read from.
use Rattle.std.specs.Prelude.{◌≡◌, ◌≤◌, ◌<◌, ◌-◌, ℕ, List, length, slice_get, Option, Some}
use Rattle.std.specs.Prelude.{IfSome, IsTrue, All}
use Rattle.std.specs.List.{AllByRecursion}
use Rattle.smbus.specs.declared.message.Form.TheVariants as form
use Rattle.pmbus_table.specs.Commands.{takes_form}
use Rattle.pmbus_table.specs.Voltage.{carries_voltage}
use Rattle.seq_program.specs.declared.instr.Instr.{Instr}
use Rattle.seq_program.specs.declared.instr.Instr.TheVariants as instr
use Rattle.seq_program.specs.declared.instr.Written.{Written}
use Rattle.seq_program.specs.declared.instr.Written.TheVariants as written
use Rattle.seq_program.specs.Programs.{is_end}
use Rattle.seq_program.specs.Requests.{target_in, else_in, read_form}
use Rattle.seq_program.specs.declared.program.TheConstants.{MOST_PLACES}
use Rattle.seq_program.specs.declared.instr.TheConstants.{MOST_TURNS}

-- where it may jump to
abbrev pub jump_in : Instr → Option ℕ
jump_in (instr.IfAlert jump) = Some jump
jump_in (instr.If register mask value jump) = Some jump
jump_in (instr.Above register value jump) = Some jump
jump_in (instr.Again counter jump) = Some jump
jump_in (instr.Goto jump) = Some jump
jump_in i = else_in i

-- it jumps nowhere but to this place
abbrev pub JumpsTo : ℕ → Instr → Type 0
JumpsTo place i = IfSome (jump_in i) (λ p. p ≡ place)

-- a register is written as a word, to a command that sets a voltage
abbrev pub IsWritten : ℕ → Written → Type 0
IsWritten command (written.Byte value) = IsTrue (takes_form command form.WriteByte) × (value ≤ 255)
IsWritten command (written.Word value) =
    IsTrue (takes_form command form.WriteWord) × (value ≤ 65535)
IsWritten command (written.Register register) =
    IsTrue (takes_form command form.WriteWord) × IsTrue (carries_voltage command) × (register < 8)

-- so many bytes
abbrev pub IsBlock : ℕ → List ℕ → Type 0
IsBlock most bytes =
    (1 ≤ length bytes) × (length bytes ≤ most) × AllByRecursion (λ b. b < 256) bytes

-- commands take their forms, and operands are in their ranges
abbrev pub IsInstr : Instr → Type 0
IsInstr (instr.Quick target read otherwise) = Unit {0}
IsInstr (instr.Send target command otherwise) = IsTrue (takes_form command form.SendByte)
IsInstr (instr.Receive target register otherwise) = register < 8
IsInstr (instr.Write target command value otherwise) = IsWritten command value
IsInstr (instr.Read target command size register otherwise) =
    IsTrue (takes_form command (read_form size)) × (register < 8)
IsInstr (instr.Call target command value register otherwise) =
    IsTrue (takes_form command form.ProcessCall) × (value ≤ 65535) × (register < 8)
IsInstr (instr.BlockWrite target command bytes otherwise) =
    IsTrue (takes_form command form.BlockWrite) × IsBlock 255 bytes
IsInstr (instr.BlockRead target command register otherwise) =
    IsTrue (takes_form command form.BlockRead) × (register < 8)
IsInstr (instr.BlockCall target command bytes register otherwise) =
    IsTrue (takes_form command form.BlockProcessCall) × IsBlock 254 bytes × (register < 8)
IsInstr (instr.Alert register otherwise) = register < 8
IsInstr (instr.IfAlert jump) = Unit {0}
IsInstr (instr.Set register value) = (register < 8) × (value ≤ 65535)
IsInstr (instr.Add register value) = (register < 8) × (value ≤ 65535)
IsInstr (instr.If register mask value jump) = (register < 8) × (mask ≤ 65535) × (value ≤ 65535)
IsInstr (instr.Above register value jump) = (register < 8) × (value ≤ 65535)
IsInstr (instr.Count counter value) = (counter < 4) × (value ≤ MOST_TURNS)
IsInstr (instr.Again counter jump) = counter < 4
IsInstr (instr.Wait ticks) = (1 ≤ ticks) × (ticks ≤ 10000000)
IsInstr (instr.Goto jump) = Unit {0}
IsInstr instr.End = Unit {0}
IsInstr instr.Fail = Unit {0}

-- its target is one of so many
abbrev pub IsOnBoard : ℕ → Instr → Type 0
IsOnBoard targets i = IfSome (target_in i) (λ t. t < targets)

-- an instruction that was read for a board
abbrev pub IsInstrOn : ℕ → Instr → Type 0
IsInstrOn targets i = IsInstr i × IsOnBoard targets i

pub record IsProgram (instrs : List Instr) : Type 0 where
  pub some : 1 ≤ length instrs
  pub few : length instrs ≤ MOST_PLACES
  pub each : All (λ i. IsInstr i) instrs
  -- every jump lands
  pub jumps : All (λ i. IfSome (jump_in i) (λ place. place < length instrs)) instrs
  -- the last instruction ends
  pub last : IfSome (slice_get instrs (length instrs - 1)) (λ i. IsTrue (is_end i))
