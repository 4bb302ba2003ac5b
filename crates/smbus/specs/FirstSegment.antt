-- The bytes up to the first repeated START: those of a message, those that go out, and those that
-- are seen.
use Rattle.std.specs.Prelude.{ℕ, ◌+◌, ◌/◌, ◌==◌, Bool, if◌then◌else◌, Option, Some, None, List, []}
use Rattle.std.specs.Prelude.{◌∷◌, ◌++◌, map, length, take}
use Rattle.wires.specs.Bits.{number_of}
use Rattle.bit_bus.specs.Levels.{first_cut}
use Rattle.smbus.specs.Asked.{Asked}
use Rattle.smbus.specs.Answered.{Answered}
use Rattle.smbus.specs.Shown.{Shown}
use Rattle.smbus.specs.Protocol.{Piece, whole}
use Rattle.smbus.specs.Protocol.Piece.{Sent, Refused, Got, Repeat}
use Rattle.smbus.specs.Slots.{plan_of}

abbrev pub bytes_in : List Piece → List ℕ
bytes_in [] = []
bytes_in (Sent b ∷ later) = b ∷ bytes_in later
bytes_in (Refused b ∷ later) = b ∷ bytes_in later
bytes_in (Got b more ∷ later) = b ∷ bytes_in later
bytes_in (Repeat ∷ later) = []

-- those of a whole frame of the message
abbrev pub message_bytes : Asked → Answered → List ℕ
message_bytes m a = bytes_in (whole m a.value a.bytes)

-- the controller's bytes are numbered from 0, and none goes out after the refused one
abbrev pub bytes_to : Option ℕ → List ℕ → List ℕ
bytes_to None bytes = bytes
bytes_to (Some n) bytes = take (n + 1) bytes

-- a byte takes nine slots, its eight bits and an acknowledge (UM10204, 3.1.5 and 3.1.6), and has
-- gone out where all eight bits stand before the slot that is cut
abbrev pub bytes_before : Option ℕ → List ℕ → List ℕ
bytes_before None bytes = bytes
bytes_before (Some slot) bytes = take ((slot + 1) / 9) bytes

-- those that go out
abbrev pub bytes_out : Asked → Answered → List ℕ
bytes_out m a = bytes_before (first_cut (plan_of m a)) (bytes_to a.refuse (message_bytes m a))

-- eight bits left over are a byte
abbrev pub tail_byte : List Bool → List ℕ
tail_byte tail = if length tail == 8 then number_of tail ∷ [] else []

abbrev pub bytes_among : List (List (ℕ × Bool)) → List Bool → List ℕ
bytes_among [] tail = []
bytes_among (s ∷ []) tail = map (λ (b : ℕ × Bool). b.0) s ++ tail_byte tail
bytes_among (s ∷ t ∷ later) tail = map (λ (b : ℕ × Bool). b.0) s

-- those that are seen in a frame, with or without an acknowledge
abbrev pub bytes_seen : Shown → List ℕ
bytes_seen f = bytes_among f.segments f.tail
