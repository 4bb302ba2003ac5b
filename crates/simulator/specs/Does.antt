-- What an entry is seen to do, judged from its samples, and the same from its message and answer.
use Rattle.std.specs.Prelude.{ℕ, ◌≡◌, ◌<◌, ◌≤◌, ◌↔◌, Bool, None, List, [], ◌∷◌, ◌++◌, length}
use Rattle.wires.specs.declared.lines.Sample.{Sample}
use Rattle.wires.specs.Events.{events_of}
use Rattle.bit_bus.specs.Levels.{first_cut, HasTimeout}
use Rattle.smbus.specs.Asked.{Asked}
use Rattle.smbus.specs.Answered.{Answered}
use Rattle.smbus.specs.Shown.{Shown}
use Rattle.smbus.specs.Frames.{AreFrames}
use Rattle.smbus.specs.Protocol.{marks_of, whole}
use Rattle.smbus.specs.Slots.{plan_of}
use Rattle.smbus.specs.Whole.{IsWhole}
use Rattle.smbus.specs.FirstSegment.{bytes_out, bytes_seen}
use Rattle.smbus.specs.MessageFrame.{send_byte, read_word, IsSendByte, IsReadWord, IsCutLate}
use Rattle.smbus.specs.MessageFrame.{ReadsNoBlock, AreAsked}
use Rattle.targets.specs.Outcomes.{IsDone}
use Rattle.smbus.specs.Slots.{samples_of}

abbrev pub HasFrame : List Sample → Shown → Type 0
HasFrame samples f = AreFrames (events_of samples) (f ∷ [])

abbrev pub IsFrontOfBytes : List ℕ → List ℕ → Type 0
IsFrontOfBytes front bytes = (rest : List ℕ) × (bytes ≡ front ++ rest)

-- the bytes of its first segment that went out begin with these
pub record BeginsWith (samples : List Sample) (bytes : List ℕ) : Type 0 where
  pub frame : Shown
  pub has : HasFrame samples frame
  pub front : IsFrontOfBytes bytes (bytes_seen frame)

-- it is a whole Send Byte of the code (SMBus 3.2, 6.5.2), and the clock was nowhere low for too
-- long
pub record SendsByte (samples : List Sample) (address code : ℕ) : Type 0 where
  pub frame : Shown
  pub has : HasFrame samples frame
  pub byte : code < 256
  pub is_whole : IsWhole (send_byte address code) 0 [] frame
  pub in_time : HasTimeout samples → ⊥

-- it is a whole Read Word of the code (SMBus 3.2, 6.5.5) that returns the value
pub record ReportsWord (samples : List Sample) (address code value : ℕ) : Type 0 where
  pub frame : Shown
  pub has : HasFrame samples frame
  pub word : value < 65536
  pub is_whole : IsWhole (read_word address code) value [] frame

-- the same of the message and the answer
abbrev pub Sent : Asked → Answered → ℕ → ℕ → Type 0
Sent m a address code = IsSendByte address code m × IsDone m a

pub record Reported (m : Asked) (a : Answered) (address code value : ℕ) : Type 0 where
  pub read : IsReadWord address code value m a
  pub accepted : a.refuse ≡ None
  pub cut_late : IsCutLate (first_cut (plan_of m a)) (length (marks_of (whole m a.value a.bytes)))

pub record DoesAsAsked (m : Asked) (a : Answered) (alert : Bool) : Type 0 where
  pub begins : (bytes : List ℕ)
      → BeginsWith (samples_of alert m a) bytes ↔ IsFrontOfBytes bytes (bytes_out m a)
  pub sends : (address code : ℕ) → address ≤ 127
      → SendsByte (samples_of alert m a) address code ↔ Sent m a address code
  pub reports : (address code value : ℕ) → address ≤ 127 → code < 256 → ReadsNoBlock code m
      → ReportsWord (samples_of alert m a) address code value ↔ Reported m a address code value

abbrev pub EntriesDoAsAsked : Type 0
EntriesDoAsAsked = (m : Asked) (a : Answered) (alert : Bool) → AreAsked m a → DoesAsAsked m a alert
