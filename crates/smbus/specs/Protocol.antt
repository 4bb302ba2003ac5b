-- The bus protocols (SMBus 3.2, 6.5.1 to 6.5.8, and the alert response of appendix A): what a whole
-- frame of each form is made of, and where a refused byte ends it.
use Rattle.std.specs.Prelude.{ℕ, zero, suc, ◌≡◌, ◌+◌, ◌*◌, ◌/◌, ◌%◌, ◌<◌, ◌≤◌, Bool, true, false}
use Rattle.std.specs.Prelude.{if◌then◌else◌, Option, Some, None, List, [], ◌∷◌, ◌++◌, map, length}
use Rattle.std.specs.List.{flat_map}
use Rattle.bit_bus.specs.declared.plan.Slot.{Slot}
use Rattle.bit_bus.specs.declared.plan.Slot.TheVariants.{Bit, Again}
use Rattle.smbus.specs.declared.message.Form.{Form}
use Rattle.smbus.specs.declared.message.Form.TheVariants.{Quick, SendByte, ReceiveByte, WriteByte}
use Rattle.smbus.specs.declared.message.Form.TheVariants.{WriteWord, ReadByte, ReadWord}
use Rattle.smbus.specs.declared.message.Form.TheVariants.{ProcessCall, BlockWrite, BlockRead}
use Rattle.smbus.specs.declared.message.Form.TheVariants.{BlockProcessCall, Alert}
use Rattle.smbus.specs.Asked.{Asked}
use Rattle.smbus.specs.Frames.{byte_bits}

-- a part of a frame, after its START: a byte of the controller, which is acknowledged or refused, a
-- byte of a target, which the controller acknowledges where it wants more, or a repeated START
pub data Piece : Type 0 where
  Sent : (byte : ℕ) → Piece
  Refused : (byte : ℕ) → Piece
  Got : (byte : ℕ) → (more : Bool) → Piece
  Repeat : Piece

abbrev pub sent : List ℕ → List Piece
sent bytes = map Sent bytes

-- the address with the direction bit 0, and what the controller writes
abbrev pub written : ℕ → List ℕ → List Piece
written address bytes = Sent (2 * address) ∷ sent bytes

-- the controller acknowledges each byte that it reads but the last
abbrev pub got : List ℕ → List Piece
got [] = []
got (b ∷ []) = Got b false ∷ []
got (b ∷ c ∷ bytes) = Got b true ∷ got (c ∷ bytes)

-- the address with the direction bit 1, and what the controller reads
abbrev pub read : ℕ → List ℕ → List Piece
read address bytes = Sent (2 * address + 1) ∷ got bytes

abbrev pub low : ℕ → ℕ
low value = value % 256

abbrev pub high : ℕ → ℕ
high value = value / 256

abbrev pub direction_bit : Bool → ℕ
direction_bit is_read = if is_read then 1 else 0

-- the whole frame of each form at address a, where value or block is returned; words go low byte
-- first
abbrev pub whole_of : Form → ℕ → ℕ → List ℕ → ℕ → List ℕ → List Piece
whole_of (Quick is_read) a code out value block = Sent (2 * a + direction_bit is_read) ∷ []
whole_of SendByte a code out value block = written a (code ∷ [])
whole_of ReceiveByte a code out value block = read a (low value ∷ [])
whole_of WriteByte a code out value block = written a (code ∷ out)
whole_of WriteWord a code out value block = written a (code ∷ out)
whole_of ReadByte a code out value block = written a (code ∷ []) ++ Repeat ∷ read a (low value ∷ [])
whole_of ReadWord a code out value block =
    written a (code ∷ []) ++ Repeat ∷ read a (low value ∷ high value ∷ [])
whole_of ProcessCall a code out value block =
    written a (code ∷ out) ++ Repeat ∷ read a (low value ∷ high value ∷ [])
whole_of BlockWrite a code out value block = written a (code ∷ length out ∷ out)
whole_of BlockRead a code out value block =
    written a (code ∷ []) ++ Repeat ∷ read a (length block ∷ block)
whole_of BlockProcessCall a code out value block =
    written a (code ∷ length out ∷ out) ++ Repeat ∷ read a (length block ∷ block)
whole_of Alert a code out value block = read a (low value ∷ [])

abbrev pub whole : Asked → ℕ → List ℕ → List Piece
whole m value block = whole_of m.form m.address m.code m.out value block

-- how many data bytes each form is given, without the code and without a block's count
abbrev pub HasLength : Form → ℕ → Type 0
HasLength (Quick is_read) n = n ≡ 0
HasLength SendByte n = n ≡ 0
HasLength ReceiveByte n = n ≡ 0
HasLength WriteByte n = n ≡ 1
HasLength WriteWord n = n ≡ 2
HasLength ReadByte n = n ≡ 0
HasLength ReadWord n = n ≡ 0
HasLength ProcessCall n = n ≡ 2
HasLength BlockWrite n = Unit {0}
HasLength BlockRead n = n ≡ 0
HasLength BlockProcessCall n = Unit {0}
HasLength Alert n = n ≡ 0

-- a block has 1 to 255 bytes, and both of a block process call together at most 255
abbrev pub AreGoodCounts : Form → ℕ → ℕ → Type 0
AreGoodCounts BlockWrite out block = (0 < out) × (out ≤ 255)
AreGoodCounts BlockRead out block = (0 < block) × (block ≤ 255)
AreGoodCounts BlockProcessCall out block = (0 < out) × (0 < block) × (out + block ≤ 255)
AreGoodCounts form out block = Unit {0}

-- the controller's bytes are numbered from 0, and the frame ends in the one that is refused
abbrev pub refused_at : ℕ → List Piece → List Piece
refused_at n [] = []
refused_at zero (Sent b ∷ later) = Refused b ∷ []
refused_at (suc n) (Sent b ∷ later) = Sent b ∷ refused_at n later
refused_at n (Refused b ∷ later) = Refused b ∷ []
refused_at n (Got b more ∷ later) = Got b more ∷ refused_at n later
refused_at n (Repeat ∷ later) = Repeat ∷ refused_at n later

abbrev pub up_to_refused : Option ℕ → List Piece → List Piece
up_to_refused None pieces = pieces
up_to_refused (Some n) pieces = refused_at n pieces

-- how many bytes the controller sends
abbrev pub sent_count : List Piece → ℕ
sent_count [] = 0
sent_count (Sent b ∷ later) = suc (sent_count later)
sent_count (Refused b ∷ later) = suc (sent_count later)
sent_count (Got b more ∷ later) = sent_count later
sent_count (Repeat ∷ later) = sent_count later

-- the refusal, if any, names a byte of the controller
abbrev pub IsNumbered : Option ℕ → ℕ → Type 0
IsNumbered None count = Unit {0}
IsNumbered (Some n) count = n < count

-- the marks of a frame: its bits, acknowledges and repeated STARTs in order
abbrev pub bit_marks : List Bool → List Slot
bit_marks bits = map Bit bits

abbrev pub byte_marks : ℕ → Bool → List Slot
byte_marks b acknowledged = bit_marks (byte_bits (b, acknowledged))

abbrev pub piece_marks : Piece → List Slot
piece_marks (Sent b) = byte_marks b true
piece_marks (Refused b) = byte_marks b false
piece_marks (Got b more) = byte_marks b more
piece_marks Repeat = Again ∷ []

abbrev pub marks_of : List Piece → List Slot
marks_of pieces = flat_map piece_marks pieces
