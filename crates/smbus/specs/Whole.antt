-- Whole frames and those that were broken off, judged by the marks and the samples that were seen.
use Rattle.std.specs.Prelude.{ℕ, ◌≡◌, ◌<◌, ◌⊎◌, Bool, List, [], ◌∷◌, ◌++◌, take}
use Rattle.wires.specs.declared.lines.Sample.{Sample}
use Rattle.bit_bus.specs.declared.plan.Slot.{Slot}
use Rattle.bit_bus.specs.declared.plan.Slot.TheVariants.{Again}
use Rattle.bit_bus.specs.Levels.{HasTimeout}
use Rattle.smbus.specs.Asked.{Asked}
use Rattle.smbus.specs.Shown.{Shown}
use Rattle.smbus.specs.Frames.{segment_bits}
use Rattle.smbus.specs.Protocol.{bit_marks, marks_of, whole, refused_at, sent_count}

abbrev pub segment_marks : List (List (ℕ × Bool)) → List Slot
segment_marks [] = []
segment_marks (s ∷ []) = bit_marks (segment_bits s)
segment_marks (s ∷ t ∷ later) = bit_marks (segment_bits s) ++ Again ∷ segment_marks (t ∷ later)

-- the marks of a frame that was seen
abbrev pub shown_marks : Shown → List Slot
shown_marks f = segment_marks f.segments ++ bit_marks f.tail

-- a whole frame of the message, which returns this value or block
abbrev pub IsWhole : Asked → ℕ → List ℕ → Shown → Type 0
IsWhole m value block f = shown_marks f ≡ marks_of (whole m value block)

-- it ends in a byte of the controller that wasn't acknowledged
pub record IsRefused (m : Asked) (value : ℕ) (block : List ℕ) (f : Shown) : Type 0 where
  pub number : ℕ
  pub is_sent : number < sent_count (whole m value block)
  pub ends : shown_marks f ≡ marks_of (refused_at number (whole m value block))

-- some first marks of all
pub record IsFrontOf (marks all : List Slot) : Type 0 where
  pub count : ℕ
  pub front : marks ≡ take count all

-- the frame was broken off: it ends in a refused byte, or SCL was low for more than 5000 samples in
-- a row (the clock-low timeout: SMBus 3.2, 4.2.5), and it is a beginning of the whole
abbrev pub IsBrokenOff : List Sample → Asked → ℕ → List ℕ → Shown → Type 0
IsBrokenOff samples m value block f =
    IsRefused m value block f
    ⊎ (HasTimeout samples × IsFrontOf (shown_marks f) (marks_of (whole m value block)))
