-- What the one frame of a message and an answer shows of the message.
use Rattle.std.specs.Prelude.{ℕ, ◌*◌, ◌≡◌, ◌<◌, ◌≤◌, ◌⊎◌, ◌↔◌, IfSome, Option, Some, None, List, []}
use Rattle.std.specs.Prelude.{◌∷◌, ◌++◌, length, All}
use Rattle.bit_bus.specs.Levels.{first_cut}
use Rattle.smbus.specs.declared.message.Form.TheVariants.{SendByte, WriteByte, ReadWord, BlockRead}
use Rattle.smbus.specs.Asked.{Asked, IsAddressed}
use Rattle.smbus.specs.Answered.{Answered}
use Rattle.smbus.specs.Protocol.{whole, marks_of}
use Rattle.smbus.specs.Slots.{plan_of}
use Rattle.smbus.specs.Whole.{IsWhole}
use Rattle.smbus.specs.OneFrame.{CanBeSent, HasOneFrame}
use Rattle.smbus.specs.SlotCounts.{most_slots}
use Rattle.smbus.specs.FirstSegment.{message_bytes, bytes_out, bytes_seen}

-- a byte has eight bits, and a word two bytes
pub record AreWireBytes (m : Asked) (a : Answered) : Type 0 where
  pub address : IsAddressed m.address m.form
  pub code : m.code < 256
  pub out : All (λ byte. byte < 256) m.out
  pub value : a.value < 65536
  pub read : All (λ byte. byte < 256) a.bytes

-- a message and an answer that can be put on the wire as they are
pub record AreAsked (m : Asked) (a : Answered) : Type 0 where
  pub can_be_sent : CanBeSent m a
  pub wire : AreWireBytes m a

abbrev pub send_byte : ℕ → ℕ → Asked
send_byte address code = record { address = address; form = SendByte; code = code; out = [] }

abbrev pub read_word : ℕ → ℕ → Asked
read_word address code = record { address = address; form = ReadWord; code = code; out = [] }

-- a Send Byte of a code (SMBus 3.2, 6.5.2)
pub record IsSendByte (address code : ℕ) (m : Asked) : Type 0 where
  pub form : m.form ≡ SendByte
  pub to : m.address ≡ address
  pub command : m.code ≡ code

-- a Read Word of a code (SMBus 3.2, 6.5.5) that returns this value
pub record IsReadWord (address code value : ℕ) (m : Asked) (a : Answered) : Type 0 where
  pub form : m.form ≡ ReadWord
  pub to : m.address ≡ address
  pub command : m.code ≡ code
  pub returns : a.value ≡ value

-- the data byte of a Write Byte goes out where neither the address nor the code is refused, and no
-- slot before the data byte's acknowledge is cut
pub record DataGoesOut (refuse cut : Option ℕ) : Type 0 where
  pub refused : IfSome refuse (λ n. 2 ≤ n)
  pub cut_late : IfSome cut (λ slot. 26 ≤ slot)

-- not cut, or in the STOP, which follows so many marks
abbrev pub IsCutLate : Option ℕ → ℕ → Type 0
IsCutLate cut marks = (cut ≡ None) ⊎ (cut ≡ Some marks)

-- A block of one byte that is read has the marks of a word whose low byte is 1: a Read Word of a
-- code is seen only where no block is read by that code.
abbrev pub ReadsNoBlock : ℕ → Asked → Type 0
ReadsNoBlock code m = m.form ≡ BlockRead → m.code ≡ code → ⊥

pub record ShowsMessage (m : Asked) (a : Answered) : Type 0 where
  pub one : HasOneFrame m a
  pub slots : length (plan_of m a) ≤ most_slots m.form (length m.out) (length a.bytes)
  -- the bytes that are seen are those that go out, a beginning of the message's
  pub went_out : bytes_seen one.frame ≡ bytes_out m a
  pub begins : (rest : List ℕ) × (message_bytes m a ≡ bytes_seen one.frame ++ rest)
  pub writes : (value : ℕ) → m.form ≡ WriteByte → m.out ≡ value ∷ []
      → (bytes_seen one.frame ≡ 2 * m.address ∷ m.code ∷ value ∷ [])
      ↔ DataGoesOut a.refuse (first_cut (plan_of m a))
  -- a frame that is a whole Send Byte or Read Word is that message's, with nothing refused
  pub sends : (address code value : ℕ) (read : List ℕ) → address ≤ 127 → code < 256
      → IsWhole (send_byte address code) value read one.frame → first_cut (plan_of m a) ≡ None
      → IsSendByte address code m × (a.refuse ≡ None)
  pub reports : (address code value : ℕ) (read : List ℕ) → address ≤ 127 → code < 256
      → value < 65536 → ReadsNoBlock code m → IsWhole (read_word address code) value read one.frame
      → IsReadWord address code value m a × (a.refuse ≡ None)
      × IsCutLate (first_cut (plan_of m a)) (length (marks_of (whole m a.value a.bytes)))

abbrev pub MessagesHaveOneFrame : Type 0
MessagesHaveOneFrame = (m : Asked) (a : Answered) → AreAsked m a → ShowsMessage m a

-- there are a message and an answer that can be put on the wire
pub record SomeAreAsked : Type 0 where
  pub message : Asked
  pub answer : Answered
  pub asked : AreAsked message answer
