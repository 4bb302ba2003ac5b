-- Reading event by event. Nothing public cites this: `Frames` says what is read.
use Rattle.std.specs.Prelude.{◌≡◌, ℕ, ◌==◌, Bool, true, false, not, if◌then◌else◌, Option}
use Rattle.std.specs.Prelude.{Some, None}
use Rattle.std.specs.Prelude.{is_some, option_map, unwrap_or, List, [], ◌∷◌, ◌++◌, take, length}
use Rattle.std.specs.Prelude.{slice_index_or}
use Rattle.wires.specs.declared.event.Event.{Event}
use Rattle.wires.specs.declared.event.Event.TheVariants.{Start, Stop, Rise}
use Rattle.wires.specs.Bits.{number_of}
use Rattle.smbus.specs.Shown.{Shown}
use Rattle.smbus.specs.declared.observing.OpenFrame.{OpenFrame}
use Rattle.smbus.specs.declared.observing.Reading.{Reading}

unfoldable pub byte_of : List Bool → ℕ × Bool
byte_of bits = (number_of (take 8 bits), not (slice_index_or bits 8 false))

-- the frames, and of the next frame its segments, the bytes of its last segment and the bits after
-- them
pub record State : Type 0 where
  pub frames : List Shown
  pub is_open : Bool
  pub segments : List (List (ℕ × Bool))
  pub bytes : List (ℕ × Bool)
  pub bits : List Bool

-- where no frame has begun, nothing stands behind the frames
abbrev pub state_of : List Shown → Option OpenFrame → State
state_of frames begun = record {
  frames = frames;
  is_open = is_some begun;
  segments = unwrap_or (option_map (λ f. f.segments.items) begun) [];
  bytes = unwrap_or (option_map (λ f. f.bytes.items) begun) [];
  bits = unwrap_or (option_map (λ f. f.bits.items) begun) [];
}

abbrev pub reading_of : Reading → State
reading_of r = state_of r.frames.items r.open_frame

abbrev pub opened : List Shown → State
opened frames = record { frames = frames; is_open = true; segments = []; bytes = []; bits = [] }

abbrev pub grown : State → State
grown s = record {
  frames = s.frames;
  is_open = s.is_open;
  segments = s.segments;
  bytes = s.bytes ++ byte_of s.bits ∷ [];
  bits = [];
}

abbrev pub with_bits : List Bool → State → State
with_bits bits s = record {
  frames = s.frames;
  is_open = s.is_open;
  segments = s.segments;
  bytes = s.bytes;
  bits = bits;
}

-- the ninth bit of a byte may belong to the STOP, so a byte is made with the bit after it
abbrev pub risen : Bool → State → State
risen bit s =
    if length s.bits == 9 then with_bits (bit ∷ []) (grown s) else with_bits (s.bits ++ bit ∷ []) s

abbrev pub is_again : List Bool → Bool
is_again [] = false
is_again (b ∷ []) = b
is_again (b ∷ c ∷ bits) = false

abbrev pub ends_low : List Bool → Bool
ends_low [] = false
ends_low (b ∷ []) = not b
ends_low (b ∷ c ∷ bits) = ends_low (c ∷ bits)

abbrev pub all_but_last : List Bool → List Bool
all_but_last [] = []
all_but_last (b ∷ []) = []
all_but_last (b ∷ c ∷ bits) = b ∷ all_but_last (c ∷ bits)

abbrev pub step : State → Event → Option State
step s (Rise bit) = if s.is_open then Some (risen bit s) else None
step s Start = if s.is_open
    then (if is_again s.bits then Some (record {
      frames = s.frames;
      is_open = true;
      segments = s.segments ++ s.bytes ∷ [];
      bytes = [];
      bits = [];
    }) else None)
    else Some (record {
      frames = s.frames;
      is_open = true;
      segments = s.segments;
      bytes = s.bytes;
      bits = s.bits;
    })
step s Stop = if s.is_open
    then (if ends_low s.bits
    then Some (record {
      frames =
          s.frames ++ record { segments = s.segments ++ s.bytes ∷ []; tail = all_but_last s.bits }
          ∷ [];
      is_open = false;
      segments = [];
      bytes = [];
      bits = [];
    })
    else None)
    else None

abbrev pub then_run : (State → Option State) → Option State → Option State
then_run f None = None
then_run f (Some s) = f s

-- the state after events, and None where one of them doesn't go on
abbrev pub run : List Event → State → Option State
run [] s = Some s
run (e ∷ es) s = then_run (run es) (step s e)

abbrev pub start : State
start = record { frames = []; is_open = false; segments = []; bytes = []; bits = [] }

-- From a state, events lead to another with some of them left: those before lead to one that can't
-- be told from it by what is left. It may have made a byte of nine bits already, where a rise comes
-- next.
pub record Leads (s : State) (events : List Event) (t : State) (rest : List Event) : Type 0 where
  pub front : List Event
  pub parts : events ≡ front ++ rest
  pub behind : State
  pub ran : run front s ≡ Some behind
  pub next : (e : Event) (later : List Event) → rest ≡ e ∷ later → step behind e ≡ step t e
  pub ended : rest ≡ [] → behind ≡ t
