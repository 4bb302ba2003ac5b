-- What a step writes, reports and withdraws, told from its message, its answer and the state before
-- it, and that its samples show just this.
use Rattle.std.specs.Prelude.{◌≡◌, ◌≤◌, ◌⊎◌, ◌↔◌, ℕ, Bool, true, false, IsTrue, Option, IsSomeAnd}
use Rattle.std.specs.Prelude.{[], ◌∷◌, length, slice_index}
use Rattle.smbus.specs.declared.message.Form.{Form}
use Rattle.smbus.specs.declared.message.Form.TheVariants.{SendByte, WriteByte, WriteWord}
use Rattle.smbus.specs.declared.message.Form.TheVariants.{ProcessCall, BlockWrite, BlockProcessCall}
use Rattle.smbus.specs.Asked.{Asked}
use Rattle.smbus.specs.Answered.{Answered}
use Rattle.smbus.specs.FirstSegment.{bytes_out}
use Rattle.pmbus_table.specs.Codes.{operation_code, status_word_code}
use Rattle.pmbus_table.specs.Operation.{enables}
use Rattle.pmbus_table.specs.Voltage.{carries_voltage}
use Rattle.board.specs.Boards.{Target, Rail, Board}
use Rattle.targets.specs.States.{BusState, IsTargetAt}
use Rattle.targets.specs.Effects.{IsByteWrite}
use Rattle.targets.specs.Outcomes.{IsDone}
use Rattle.simulator.specs.Machines.{Entry}
use Rattle.simulator.specs.Does.{BeginsWith, Reported}
use Rattle.simulator.specs.Reports.{write_to, WritesTo, Selects, IsRailAt, Reports, Withdraws}

-- the forms that write data after a code (SMBus 3.2, 6.5)
abbrev pub writes_data : Form → Bool
writes_data WriteByte = true
writes_data WriteWord = true
writes_data ProcessCall = true
writes_data BlockWrite = true
writes_data BlockProcessCall = true
writes_data other = false

-- so many bytes of the message went out at least: where it carries a code, the address is the first
-- and the code the second
abbrev pub GoOut : ℕ → Asked → Answered → Type 0
GoOut count m a = count ≤ length (bytes_out m a)

-- the message writes a code to an address: a byte after the code went out, or it is a Send Byte of
-- the code (SMBus 3.2, 6.5.2) that is done
pub record MessageWrites (address code : ℕ) (m : Asked) (a : Answered) : Type 0 where
  pub to : m.address ≡ address
  pub command : m.code ≡ code
  pub went_out : (IsTrue (writes_data m.form) × GoOut 3 m a) ⊎ ((m.form ≡ SendByte) × IsDone m a)

-- the message is a Write Byte of a value to a code, and the value went out
pub record MessageWritesByte (address code value : ℕ) (m : Asked) (a : Answered) : Type 0 where
  pub is_write : IsByteWrite address code value m
  pub went_out : GoOut 3 m a

-- the message is a Write Word to a code (SMBus 3.2, 6.5.4), low byte first, and both bytes went out
pub record MessageWritesWord (address code low high : ℕ) (m : Asked) (a : Answered) : Type 0 where
  pub to : m.address ≡ address
  pub form : m.form ≡ WriteWord
  pub command : m.code ≡ code
  pub content : m.out ≡ low ∷ high ∷ []
  pub went_out : GoOut 4 m a

-- the message is a Read Word of STATUS_WORD (PMBus 1.3 Part II, 17.2) that returned the word, while
-- PAGE was the rail's
pub record MessageReports (b : Board) (s : BusState) (d word : ℕ) (message : Option Asked)
    (a : Answered) : Type 0 where
  pub rail : Rail
  pub target : Target
  pub at : IsRailAt b d rail target
  pub page : slice_index s.page rail.target ≡ rail.page
  pub reports : IsSomeAnd message (λ m. Reported m a target.address status_word_code word)

-- the message is a Write Byte to OPERATION (PMBus 1.3 Part II, 12.1) of a value that doesn't
-- enable, which went out while PAGE selected the rail
pub record MessageWithdraws (b : Board) (s : BusState) (d : ℕ) (message : Option Asked)
    (a : Answered) : Type 0 where
  pub rail : Rail
  pub target : Target
  pub at : IsRailAt b d rail target
  pub selected : Selects b s rail.target d rail
  pub value : ℕ
  pub written : IsSomeAnd message (λ m. MessageWritesByte target.address operation_code value m a)
  pub off : enables value ≡ false

-- the samples of a step that began in a state show what its message did under the answer, and
-- nothing where it sent none
pub record StepDoes (b : Board) (s : BusState) (message : Option Asked) (a : Answered)
    (e : Entry) : Type 0 where
  pub before : e.before ≡ s
  pub writes : (i : ℕ) (t : Target) (code : ℕ) → IsTargetAt b i t
      → WritesTo t e.samples code ↔ IsSomeAnd message (λ m. MessageWrites t.address code m a)
  -- OPERATION is written by Write Byte alone, and what sets a voltage by Write Word
  pub operations : (i : ℕ) (t : Target) (value : ℕ) → IsTargetAt b i t
      → BeginsWith e.samples (write_to t ∷ operation_code ∷ value ∷ [])
      ↔ IsSomeAnd message (λ m. MessageWritesByte t.address operation_code value m a)
  pub voltages : (i : ℕ) (t : Target) (code low high : ℕ) → IsTargetAt b i t
      → IsTrue (carries_voltage code)
      → BeginsWith e.samples (write_to t ∷ code ∷ low ∷ high ∷ [])
      ↔ IsSomeAnd message (λ m. MessageWritesWord t.address code low high m a)
  pub reports : (d word : ℕ) → Reports b e d word ↔ MessageReports b s d word message a
  pub withdraws : (d : ℕ) → Withdraws b e d ↔ MessageWithdraws b s d message a
