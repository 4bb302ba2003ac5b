-- What a trace keeps by its type: each entry's samples are one frame, or none, and the run isn't
-- too long.
use Rattle.std.specs.Prelude.{◌≡◌, ◌≤◌, List, [], length, Option, Some, None, All}
use Rattle.wires.specs.declared.event.Event.{Event}
use Rattle.wires.specs.Events.{events_of}
use Rattle.smbus.specs.Shown.{Shown}
use Rattle.smbus.specs.OneFrame.{IsOnlyFrame}
use Rattle.targets.specs.declared.outcome.Outcome.{Outcome}
use Rattle.simulator.specs.Machines.{Machine, Entry}
use Rattle.simulator.specs.Steps.{total_ticks}
use Rattle.simulator.specs.Faults.{most_ticks}

pub record Trace : Type 0 where
  pub entries : List Entry
  pub last : Machine

-- the events of a step: those of one frame where a message was sent, else none
abbrev pub AreStepEvents : Option Outcome → List Event → Type 0
AreStepEvents None events = events ≡ []
AreStepEvents (Some outcome) events = (f : Shown) × IsOnlyFrame events f

pub record HasItsFrame (e : Entry) : Type 0 where
  pub frames : AreStepEvents e.outcome (events_of e.samples)
  pub ticks : e.ticks ≡ length e.samples

pub record IsTrace (t : Trace) : Type 0 where
  pub entries : All HasItsFrame t.entries
  pub within : total_ticks t.entries ≤ most_ticks
