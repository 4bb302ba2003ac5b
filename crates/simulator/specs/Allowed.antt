-- Which frames the targets of a board allow, judged from what was seen on the lines.
use Rattle.std.specs.Prelude.{◌≡◌, ◌≢◌, ◌+◌, ◌*◌, ◌||◌, ◌==◌, ◌⊎◌, ℕ, Bool, List, length}
use Rattle.std.specs.Prelude.{slice_index, Some, IsTrue, All, ◌<◌}
use Rattle.wires.specs.declared.lines.Sample.{Sample}
use Rattle.smbus.specs.declared.message.Form.{Form}
use Rattle.smbus.specs.declared.message.Form.TheVariants.{WriteByte, WriteWord, ReceiveByte}
use Rattle.smbus.specs.declared.message.Form.TheVariants.{ReadByte, ReadWord, ProcessCall}
use Rattle.smbus.specs.declared.message.Form.TheVariants.{BlockWrite, BlockRead, BlockProcessCall}
use Rattle.smbus.specs.declared.message.Form.TheVariants.{Alert}
use Rattle.smbus.specs.Asked.{Asked}
use Rattle.smbus.specs.Answered.{Answered}
use Rattle.smbus.specs.Contenders.{Contender, contender_samples, contender_frame}
use Rattle.smbus.specs.Shown.{Shown}
use Rattle.smbus.specs.Protocol.{HasLength}
use Rattle.smbus.specs.Slots.{IsGoodBlock}
use Rattle.smbus.specs.Whole.{IsWhole, IsBrokenOff}
use Rattle.smbus.specs.MessageFrame.{AreWireBytes}
use Rattle.pmbus_table.specs.Codes.{page_code, operation_code, write_protect_code}
use Rattle.pmbus_table.specs.Commands.{form_read, is_paged}
use Rattle.pmbus_table.specs.Operation.{enables}
use Rattle.pmbus_table.specs.Protect.{is_protection}
use Rattle.board.specs.Boards.{Allow, Target, Board, entry_of}
use Rattle.board.specs.Valid.{is_page_value}
use Rattle.targets.specs.States.{BusState, IsTargetAt}
use Rattle.targets.specs.Fitting.{IsIn, MayContend}

-- a word goes low byte first (SMBus 3.2, 6.5.4)
abbrev pub word_of : List ℕ → ℕ
word_of bytes = slice_index bytes 0 + 256 * slice_index bytes 1

-- a block of a length and with bytes that the entry has
pub record IsBlockIn (e : Allow) (bytes : List ℕ) : Type 0 where
  pub count : IsIn e.length (length bytes)
  pub each : All (IsIn e.values) bytes

-- what a message writes, or else what it reads, lies in the ranges of an entry; reads of PAGE and
-- WRITE_PROTECT aren't bounded
abbrev pub IsInRange : Form → Allow → Asked → Answered → Type 0
IsInRange WriteByte e m a = IsIn e.values (slice_index m.out 0)
IsInRange WriteWord e m a = IsIn e.values (word_of m.out)
IsInRange BlockWrite e m a = IsBlockIn e m.out
IsInRange ReadByte e m a = m.code ≢ page_code → m.code ≢ write_protect_code → IsIn e.values a.value
IsInRange ReceiveByte e m a = IsIn e.values a.value
IsInRange ReadWord e m a = IsIn e.values a.value
IsInRange ProcessCall e m a = IsIn e.values a.value
IsInRange BlockRead e m a = IsBlockIn e a.bytes
IsInRange BlockProcessCall e m a = IsBlockIn e a.bytes
IsInRange other e m a = Unit {0}

-- off at once, off after the delays, and on (PMBus 1.3 Part II, 12.1): the values that this profile
-- writes
abbrev pub is_operation_value : ℕ → Bool
is_operation_value value = value == 0x00 || (value == 0x40 || enables value)

-- what is written to a command is one of its values
abbrev pub WritesOnly : ℕ → (ℕ → Bool) → Asked → Type 0
WritesOnly code is_value m = m.form ≡ WriteByte → m.code ≡ code
    → IsTrue (is_value (slice_index m.out 0))

-- the target has an entry for the message and its data, while its PAGE is this one
pub record Allows (t : Target) (page : ℕ) (m : Asked) (a : Answered) : Type 0 where
  pub to : m.address ≡ t.address
  pub entry : Allow
  pub listed : entry_of m.form m.code t.allow ≡ Some entry
  pub in_range : IsInRange m.form entry m a
  pub pages : WritesOnly page_code (is_page_value t.pages) m
  pub protections : WritesOnly write_protect_code is_protection m
  pub operations : WritesOnly operation_code is_operation_value m
  -- what depends on the page isn't read of all pages at once
  pub one_page : IsTrue (is_paged m.code) → form_read m.code ≡ Some m.form → page ≢ 0xFF

-- some target allows the message; an alert response goes to no target
abbrev pub IsAllowedBy : Board → BusState → Asked → Answered → Type 0
IsAllowedBy b s m a =
    (m.form ≡ Alert)
    ⊎ ((i : ℕ) × (t : Target) × IsTargetAt b i t × Allows t (slice_index s.page i) m a)

-- the frame is one of a message that a target allows, or a beginning that a target broke off
pub record IsAllowed (b : Board) (s : BusState) (samples : List Sample) (f : Shown) : Type 0 where
  pub message : Asked
  pub answer : Answered
  pub wire : AreWireBytes message answer
  -- with as many data bytes as its form has, and blocks that can be counted
  pub has_length : HasLength message.form (length message.out)
  pub has_good_block : IsGoodBlock message answer
  pub shown : IsWhole message answer.value answer.bytes f
      ⊎ IsBrokenOff samples message answer.value answer.bytes f
  pub allowed : IsAllowedBy b s message answer

-- a whole frame of another controller that the board lets start, where an arbitration may be lost
-- (UM10204, 3.1.8)
pub record IsForeign (b : Board) (samples : List Sample) (f : Shown) : Type 0 where
  pub contender : Contender
  pub may : MayContend b contender
  pub may_lose : 0 < b.contentions
  pub alert : Bool
  pub sampled : samples ≡ contender_samples alert contender
  pub whole : f ≡ contender_frame contender

-- a frame that may stand on the lines: one of ours that a target allows, or another controller's
abbrev pub MayStand : Board → BusState → List Sample → Shown → Type 0
MayStand b s samples f = IsAllowed b s samples f ⊎ IsForeign b samples f
