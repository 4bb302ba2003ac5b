-- Small programs, of which what the checker promises of every run holds, or doesn't whatever else
-- the board says.
use Rattle.std.specs.Prelude.{◌≡◌, ◌≢◌, ◌<◌, ◌+◌, ℕ, true, false, List, [], ◌∷◌, length, Some}
use Rattle.std.specs.Prelude.{None}
use Rattle.std.specs.Prelude.{slice_get, slice_index, IsSome, IsSomeAnd, IsTrue, Contains}
use Rattle.smbus.specs.declared.message.Form.{Form}
use Rattle.smbus.specs.declared.message.Form.TheVariants.{SendByte, WriteByte, WriteWord}
use Rattle.smbus.specs.declared.message.Form.TheVariants.{ReadWord}
use Rattle.pmbus_table.specs.Codes.{clear_faults_code, operation_code, status_word_code}
use Rattle.pmbus_table.specs.Commands.{takes_form}
use Rattle.pmbus_table.specs.Operation.{enables}
use Rattle.pmbus_table.specs.Protect.{permits}
use Rattle.pmbus_table.specs.Status.{reported_good}
use Rattle.pmbus_table.specs.Voltage.{IsWithin, carries_voltage}
use Rattle.board.specs.Boards.{Target, Rail, Board, entry_of}
use Rattle.board.specs.Valid.{IsBoard}
use Rattle.targets.specs.Fitting.{IsIn}
use Rattle.targets.specs.States.{BusState, IsStart, IsTargetAt}
use Rattle.seq_program.specs.declared.instr.Instr.{Instr}
use Rattle.seq_program.specs.declared.instr.Instr.TheVariants.{Send, Write, Read, End}
use Rattle.seq_program.specs.declared.instr.Width.TheVariants as width
use Rattle.seq_program.specs.declared.instr.Written.TheVariants as written
use Rattle.simulator.specs.ForeignTicks.{message_ticks}
use Rattle.simulator.specs.Reports.{Selects}
use Rattle.simulator.specs.Safe.{is_guarded}
use Rattle.simulator.specs.Headline.{RunsAreSafe}

abbrev pub ending_program : List Instr
ending_program = End ∷ []

-- a program that only ends is safe on every board, within one tick
abbrev pub EndingIsSafe : Type 0
EndingIsSafe = (b : Board) → RunsAreSafe b ending_program 1

-- a Send Byte of a code (SMBus 3.2, 6.5.2)
abbrev pub sending_program : ℕ → ℕ → List Instr
sending_program target code = Send target code 1 ∷ End ∷ []

-- whatever a start of the board stores in WRITE_PROTECT for the target permits a write of the code
-- (PMBus 1.3 Part II, 11.1)
abbrev pub StartsPermit : Board → ℕ → ℕ → Type 0
StartsPermit b i code = (s : BusState) → IsStart b s → IsTrue (is_guarded code)
    → permits (slice_index s.protect i) code ≡ Some true

-- a Send Byte for which the target has an entry, and which every start permits, is safe within the
-- ticks of its 19 slots, or of a frame that another controller sends in its place, and one for the
-- end
abbrev pub ListedSendIsSafe : Type 0
ListedSendIsSafe = (b : Board) (i : ℕ) (t : Target) (code : ℕ) → IsBoard b → IsTargetAt b i t
    → IsTrue (takes_form code SendByte) → IsSome (entry_of SendByte code t.allow)
    → StartsPermit b i code
    → RunsAreSafe b (sending_program i code) (1 + message_ticks b 19)

-- so CLEAR_FAULTS is, whatever is protected
abbrev pub ClearingIsSafe : Type 0
ClearingIsSafe = (b : Board) (i : ℕ) (t : Target) → IsBoard b → IsTargetAt b i t
    → IsSome (entry_of SendByte clear_faults_code t.allow)
    → RunsAreSafe b (sending_program i clear_faults_code) (1 + message_ticks b 19)

-- a Send Byte of a code for which the target has no such entry isn't, whatever other forms of the
-- code it has entries for
abbrev pub UnlistedFormIsUnsafe : Type 0
UnlistedFormIsUnsafe = (b : Board) (s : BusState) (i : ℕ) (t : Target) (code bound : ℕ)
    → IsBoard b → IsStart b s → IsTargetAt b i t → IsTrue (takes_form code SendByte)
    → entry_of SendByte code t.allow ≡ None → RunsAreSafe b (sending_program i code) bound → ⊥

-- nor is one that the protection stored at the start doesn't permit
abbrev pub ProtectedWriteIsUnsafe : Type 0
ProtectedWriteIsUnsafe =
    (b : Board) (s : BusState) (i protect : ℕ) (t : Target) (code bound : ℕ)
    → IsBoard b → IsStart b s → IsTargetAt b i t → slice_index s.protect i ≡ protect
    → IsTrue (takes_form code SendByte) → IsTrue (is_guarded code)
    → permits protect code ≡ Some false → RunsAreSafe b (sending_program i code) bound → ⊥

-- a word for a command
abbrev pub voltage_program : ℕ → ℕ → ℕ → List Instr
voltage_program target code word = Write target code (written.Word word) 1 ∷ End ∷ []

-- the target has an entry of the form and the code, and the value is one of the entry's
abbrev pub Lists : Target → Form → ℕ → ℕ → Type 0
Lists t form code value = IsSomeAnd (entry_of form code t.allow) (λ e. IsIn e.values value)

-- at every start the word is within the limit of each rail that PAGE selects
abbrev pub StartsAreWithin : Board → ℕ → Target → ℕ → Type 0
StartsAreWithin b i t word = (s : BusState) (d : ℕ) (r : Rail) → IsStart b s → Selects b s i d r
    → IsWithin word t.exponent r.limit_uv

-- a voltage for which the target has an entry, which every start permits, and which is within the
-- limits, is safe within the ticks of its 37 slots and one for the end
abbrev pub VoltageWithinLimitIsSafe : Type 0
VoltageWithinLimitIsSafe = (b : Board) (i : ℕ) (t : Target) (code word : ℕ) → IsBoard b
    → IsTargetAt b i t → IsTrue (carries_voltage code) → word < 65536
    → Lists t WriteWord code word
    → StartsPermit b i code → StartsAreWithin b i t word
    → RunsAreSafe b (voltage_program i code word) (1 + message_ticks b 37)

-- a voltage over the limit of a rail isn't safe, where PAGE may select the rail at the start
abbrev pub VoltageOverLimitIsUnsafe : ℕ → Type 0
VoltageOverLimitIsUnsafe code =
    (b : Board) (s : BusState) (d : ℕ) (r : Rail) (t : Target) (word bound : ℕ)
    → IsBoard b → IsStart b s → Selects b s r.target d r → IsTargetAt b r.target t
    → word < 65536
    → (IsWithin word t.exponent r.limit_uv → ⊥)
    → RunsAreSafe b (voltage_program r.target code word) bound → ⊥

-- a value for OPERATION, to turn on (PMBus 1.3 Part II, 12.1)
abbrev pub enabling_program : ℕ → ℕ → List Instr
enabling_program target value = Write target operation_code (written.Byte value) 1 ∷ End ∷ []

-- no rail that PAGE selects at a start has needs
abbrev pub StartsHaveNoNeeds : Board → ℕ → Type 0
StartsHaveNoNeeds b i = (s : BusState) (d : ℕ) (r : Rail) → IsStart b s → Selects b s i d r
    → r.needs ≡ []

-- turning on rails that have no needs, at a margin or not, is safe where the target has an entry
-- for it and every start permits it, within the ticks of its 28 slots and one for the end
abbrev pub EnablingWithoutNeedsIsSafe : Type 0
EnablingWithoutNeedsIsSafe = (b : Board) (i : ℕ) (t : Target) (value : ℕ) → IsBoard b
    → IsTargetAt b i t → IsTrue (enables value)
    → Lists t WriteByte operation_code value → StartsPermit b i operation_code
    → StartsHaveNoNeeds b i
    → RunsAreSafe b (enabling_program i value) (1 + message_ticks b 28)

-- a program that turns on a rail with needs, at a margin or not, and asks for none of them, isn't
-- safe within any bound: not where PAGE may select the rail at the start
abbrev pub EnablingAtOnceIsUnsafe : ℕ → Type 0
EnablingAtOnceIsUnsafe value = (b : Board) (s : BusState) (d : ℕ) (r : Rail) (bound : ℕ) → IsBoard b
    → IsStart b s → Selects b s r.target d r → r.needs ≢ []
    → RunsAreSafe b (enabling_program r.target value) bound → ⊥

-- asks whether a need is good, turns it off, and turns on what needs it; where it got no report, it
-- goes on at the label
abbrev pub withdrawing_program : ℕ → ℕ → ℕ → ℕ → List Instr
withdrawing_program label need target value =
    Read need status_word_code width.Word 0 label ∷ Write need operation_code (written.Byte 0x00) 2
    ∷ Write target operation_code (written.Byte value) 3 ∷ End ∷ []

-- what was reported is withdrawn, whatever the word was
abbrev pub WithdrawnNeedIsUnsafe : Type 0
WithdrawnNeedIsUnsafe =
    (b : Board) (s : BusState) (n d value : ℕ) (need r : Rail) (label bound : ℕ) → IsBoard b
    → IsStart b s → label < 4 → IsTrue (enables value)
    → Selects b s need.target n need → Selects b s r.target d r → Contains r.needs n
    → RunsAreSafe b (withdrawing_program label need.target r.target value) bound → ⊥

-- for each command that sets a voltage, and for each value that enables
abbrev pub AtEachVoltage : (ℕ → Type 0) → Type 0
AtEachVoltage IsSo = (code : ℕ) → IsTrue (carries_voltage code) → IsSo code

abbrev pub AtEachEnabling : (ℕ → Type 0) → Type 0
AtEachEnabling IsSo = (value : ℕ) → IsTrue (enables value) → IsSo value

-- among these are VOUT_MARGIN_HIGH and VOUT_MARGIN_LOW (PMBus 1.3 Part II, 13.2 and what follows)
abbrev pub margin_codes : List ℕ
margin_codes = 0x25 ∷ 0x26 ∷ []

-- and the values that turn on at the low and at the high margin, each ignoring faults and acting on
-- them (12.1)
abbrev pub margin_values : List ℕ
margin_values = 0x94 ∷ 0x98 ∷ 0xA4 ∷ 0xA8 ∷ []

-- Each law speaks of some program on some board, where nothing else is wrong with the program than
-- what its law names: an entry lists what it sends, the starts permit what it writes, and so on.

-- a board with its first target, and a start
pub record StartedBoard : Type 0 where
  pub board : Board
  pub state : BusState
  pub target : Target
  pub is_board : IsBoard board
  pub is_start : IsStart board state
  pub first : IsTargetAt board 0 target

-- a guarded Send Byte that is listed and permitted
pub record SomeSendIsListed : Type 0 where
  pub on : StartedBoard
  pub code : ℕ
  pub takes : IsTrue (takes_form code SendByte)
  pub guarded : IsTrue (is_guarded code)
  pub listed : IsSome (entry_of SendByte code on.target.allow)
  pub permitted : StartsPermit on.board 0 code

-- CLEAR_FAULTS that is listed
pub record SomeClearingIsListed : Type 0 where
  pub on : StartedBoard
  pub listed : IsSome (entry_of SendByte clear_faults_code on.target.allow)

-- a Send Byte that is permitted, and whose code is listed in another form alone
pub record SomeFormIsUnlisted : Type 0 where
  pub on : StartedBoard
  pub code : ℕ
  pub takes : IsTrue (takes_form code SendByte)
  pub other : IsSome (entry_of WriteByte code on.target.allow)
  pub unlisted : entry_of SendByte code on.target.allow ≡ None
  pub permitted : StartsPermit on.board 0 code

-- one that is listed, and forbidden
pub record SomeWriteIsProtected : Type 0 where
  pub on : StartedBoard
  pub code : ℕ
  pub takes : IsTrue (takes_form code SendByte)
  pub guarded : IsTrue (is_guarded code)
  pub listed : IsSome (entry_of SendByte code on.target.allow)
  pub protect : ℕ
  pub stored : slice_index on.state.protect 0 ≡ protect
  pub forbids : permits protect code ≡ Some false

-- a voltage that is listed and permitted, for a rail that PAGE selects
pub record ListedVoltage (code : ℕ) : Type 0 where
  pub on : StartedBoard
  pub word : ℕ
  pub small : word < 65536
  pub listed : Lists on.target WriteWord code word
  pub permitted : StartsPermit on.board 0 code
  pub rail : Rail
  pub on_first : rail.target ≡ 0
  pub selected : Selects on.board on.state rail.target 0 rail

-- and within the limits
pub record SomeVoltageIsWithin (code : ℕ) : Type 0 where
  pub case : ListedVoltage code
  pub within : StartsAreWithin case.on.board 0 case.on.target case.word

-- or over the rail's
pub record SomeVoltageIsOver (code : ℕ) : Type 0 where
  pub case : ListedVoltage code
  pub over : IsWithin case.word case.on.target.exponent case.rail.limit_uv → ⊥

-- turning on a rail that PAGE selects is listed and permitted
pub record ListedEnabling (value : ℕ) : Type 0 where
  pub on : StartedBoard
  pub listed : Lists on.target WriteByte operation_code value
  pub permitted : StartsPermit on.board 0 operation_code
  pub rail : Rail
  pub on_first : rail.target ≡ 0
  pub selected : Selects on.board on.state rail.target 0 rail

-- and no rail has needs
pub record SomeRailHasNoNeeds (value : ℕ) : Type 0 where
  pub case : ListedEnabling value
  pub none : StartsHaveNoNeeds case.on.board 0

-- or this one has some
pub record SomeRailHasNeeds (value : ℕ) : Type 0 where
  pub case : ListedEnabling value
  pub some : case.rail.needs ≢ []

-- the one rail that it needs is on a target whose PAGE is the rail's; asking it is listed, and
-- tells only what is good; turning it off is listed and permitted
pub record SomeNeedIsWithdrawn (value : ℕ) : Type 0 where
  pub case : ListedEnabling value
  pub need : Rail
  pub other : Target
  pub at : IsTargetAt case.on.board need.target other
  pub need_selected : Selects case.on.board case.on.state need.target 1 need
  pub page : slice_index case.on.state.page need.target ≡ need.page
  pub needed : Contains case.rail.needs 1
  pub no_other : length case.rail.needs ≡ 1
  pub label : ℕ
  pub lands : label < 4
  pub ends : slice_get (withdrawing_program label need.target case.rail.target value) label
      ≡ Some End
  pub good : IsSomeAnd (entry_of ReadWord status_word_code other.allow)
      (λ e. (word : ℕ) → IsIn e.values word → IsTrue (reported_good word))
  pub turns_off : Lists other WriteByte operation_code 0x00
  pub may_turn_off : StartsPermit case.on.board need.target operation_code
