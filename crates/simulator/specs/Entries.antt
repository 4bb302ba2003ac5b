-- The samples of an entry: of a step that sends none, and what entries have of frames.
use Rattle.std.specs.Prelude.{ℕ, ◌≡◌, Bool, List, [], ◌∷◌, replicate}
use Rattle.std.specs.List.{flat_map}
use Rattle.wires.specs.declared.lines.Sample.{Sample}
use Rattle.wires.specs.Events.{events_of}
use Rattle.bit_bus.specs.Levels.{idle, EndsHigh}
use Rattle.smbus.specs.Shown.{Shown}
use Rattle.smbus.specs.Frames.{AreFrames}

-- of a step that sends nothing: so many idle samples
unfoldable pub idle_samples : Bool → ℕ → List Sample
idle_samples alert ticks = replicate ticks (idle alert)

-- the samples begin with an idle one, and leave the bus free (UM10204, 3.1.4)
pub record IsEntry (samples : List Sample) : Type 0 where
  pub alert : Bool
  pub later : List Sample
  pub begins : samples ≡ idle alert ∷ later
  pub high : EndsHigh samples

-- entries one after another
abbrev pub joined : List (List Sample) → List Sample
joined entries = flat_map (λ (samples : List Sample). samples) entries

abbrev pub all_frames : List (List Shown) → List Shown
all_frames frames = flat_map (λ (fs : List Shown). fs) frames

-- the frames of each entry
abbrev pub AreRead : List (List Sample) → List (List Shown) → Type 0
AreRead [] [] = Unit {0}
AreRead [] (fs ∷ frames) = ⊥
AreRead (samples ∷ entries) [] = ⊥
AreRead (samples ∷ entries) (fs ∷ frames) =
    AreFrames (events_of samples) fs × AreRead entries frames
