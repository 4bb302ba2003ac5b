-- The events of a frame (UM10204, 3.1.4 to 3.1.6), and of frames one after another.
use Rattle.std.specs.Prelude.{ℕ, ◌≡◌, ◌+◌, ◌<◌, ◌≤◌, Bool, true, false, not, List, [], ◌∷◌, ◌++◌}
use Rattle.std.specs.Prelude.{map, length, take, All}
use Rattle.std.specs.List.{flat_map}
use Rattle.wires.specs.declared.event.Event.{Event}
use Rattle.wires.specs.declared.event.Event.TheVariants.{Start, Stop, Rise}
use Rattle.wires.specs.Bits.{bits_of}
use Rattle.smbus.specs.Shown.{Shown}
use Rattle.smbus.specs.declared.fault.ObserveFault.{ObserveFault}
use Rattle.smbus.specs.declared.fault.ObserveFault.TheVariants.{Memory, NotFrames}

-- a byte takes nine clocks: its bits, most significant first, and then SDA low for an acknowledge
unfoldable pub byte_bits : ℕ × Bool → List Bool
byte_bits b = bits_of 8 b.0 ++ not b.1 ∷ []

abbrev pub segment_bits : List (ℕ × Bool) → List Bool
segment_bits bytes = flat_map byte_bits bytes

-- each bit is clocked by a rise of SCL
abbrev pub rises : List Bool → List Event
rises bits = map Rise bits

-- before a repeated START SDA is let go high and SCL rises
abbrev pub segment_words : List (List (ℕ × Bool)) → List Event
segment_words [] = []
segment_words (s ∷ []) = rises (segment_bits s)
segment_words (s ∷ t ∷ later) =
    rises (segment_bits s) ++ Rise true ∷ Start ∷ segment_words (t ∷ later)

-- before the STOP SDA is pulled low and SCL rises
abbrev pub frame_word : Shown → List Event
frame_word f = Start ∷ segment_words f.segments ++ rises f.tail ++ Rise false ∷ Stop ∷ []

pub record IsFrame (f : Shown) : Type 0 where
  pub some : 0 < length f.segments
  pub bytes : All (λ (s : List (ℕ × Bool)). All (λ (b : ℕ × Bool). b.0 < 256) s) f.segments
  pub tail : length f.tail ≤ 8

-- the events are the words of these frames, one after another
pub record AreFrames (events : List Event) (frames : List Shown) : Type 0 where
  pub each : All IsFrame frames
  pub words : events ≡ flat_map frame_word frames

-- some frames' events begin with these
abbrev pub Begins : List Event → Type 0
Begins events = (frames : List Shown) × (more : List Event) × AreFrames (events ++ more) frames

-- the least place for which no frames begin with the events up to it, it included; where all the
-- events begin some frames but are none, it is their number
pub record FailsAt (events : List Event) (place : ℕ) : Type 0 where
  pub within : place ≤ length events
  pub least : (n : ℕ) → n < place → Begins (take (n + 1) events)
  pub here : place < length events → Begins (take (place + 1) events) → ⊥
  pub unfinished : place ≡ length events → (frames : List Shown) → AreFrames events frames → ⊥

abbrev pub FaultIs : List Event → ObserveFault → Type 0
FaultIs events Memory = Unit {0}
FaultIs events (NotFrames place) = FailsAt events place
