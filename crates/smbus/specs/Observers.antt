-- What an observer of a stream of events keeps, and what it says of each piece of the stream.
use Rattle.std.specs.Prelude.{ℕ, ◌≡◌, ◌≢◌, ◌+◌, ◌-◌, ◌<◌, ◌≤◌, Option, Some, None, List, ◌++◌}
use Rattle.std.specs.Prelude.{[], length, take, All, ◌⊎◌}
use Rattle.std.specs.List.{flat_map}
use Rattle.wires.specs.declared.event.Event.{Event}
use Rattle.wires.specs.declared.event.Event.TheVariants.{Stop}
use Rattle.wires.specs.Runs.{most_samples}
use Rattle.smbus.specs.Shown.{Shown}
use Rattle.smbus.specs.Frames.{frame_word, IsFrame, Begins}
use Rattle.smbus.specs.declared.fault.ObserveFault.{ObserveFault}
use Rattle.smbus.specs.declared.fault.ObserveFault.TheVariants.{Memory, NotFrames}

-- the events that an observer may be fed: no more than there are samples
abbrev pub most_events : ℕ
most_events = most_samples

pub record Observing : Type 0 where
  -- the events in pieces that were taken
  pub fed : ℕ
  -- the place of the first NotFrames that `feed` answered
  pub failed : Option ℕ
  -- the events since the last STOP
  pub rest : List Event

-- what holds of each observer: its rest is the beginning of a frame, with no STOP, and was fed
pub record IsObserving (o : Observing) : Type 0 where
  pub no_stop : All (λ e. e ≢ Stop) o.rest
  pub begins : Begins o.rest
  pub short : length o.rest ≤ o.fed
  pub few : o.fed ≤ most_events

-- the least place for which no frames begin with the events up to it, it included
pub record StopsAt (events : List Event) (place : ℕ) : Type 0 where
  pub within : place < length events
  pub least : (n : ℕ) → n < place → Begins (take (n + 1) events)
  pub here : Begins (take (place + 1) events) → ⊥

-- the rest and the piece are the events of these frames and of the new rest
pub record IsTaken (old : Observing) (piece : List Event) (frames : List Shown) (new : Observing)
    : Type 0 where
  pub none_before : old.failed ≡ None
  pub each : All IsFrame frames
  pub words : old.rest ++ piece ≡ flat_map frame_word frames ++ new.rest
  pub begins : Begins (old.rest ++ piece)
  pub fed : new.fed ≡ old.fed + length piece
  pub none : new.failed ≡ None
  pub kept : IsObserving new

-- the rest and the piece stop at this place, which counts from the first event that was fed
pub record IsStopped (old : Observing) (piece : List Event) (place : ℕ) : Type 0 where
  pub none_before : old.failed ≡ None
  pub at : ℕ
  pub stops : StopsAt (old.rest ++ piece) at
  pub counted : place ≡ old.fed - length old.rest + at

-- for want of memory, where the piece goes on, nothing changes; the place of the first NotFrames is
-- kept, and told again
abbrev pub FeedFault : Observing → List Event → Observing → ObserveFault → Type 0
FeedFault old piece new Memory =
    (new ≡ old) × (old.failed ≡ None) × Begins (old.rest ++ piece)
FeedFault old piece new (NotFrames place) =
    (new ≡ record { fed = old.fed; failed = Some place; rest = old.rest })
    × ((old.failed ≡ Some place) ⊎ IsStopped old piece place)

-- the kept place or, where none is kept and a frame is open, the number of the events
abbrev pub FinishFault : Observing → ObserveFault → Type 0
FinishFault o Memory = ⊥
FinishFault o (NotFrames place) =
    (o.failed ≡ Some place) ⊎ ((o.failed ≡ None) × (o.rest ≢ []) × (place ≡ o.fed))
