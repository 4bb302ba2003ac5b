-- What clocks of SCL spell, from runs of equal samples. Nothing public cites this.
use Rattle.std.specs.Prelude.{ℕ, ◌*◌, ◌≡◌, Bool, true, List, ◌∷◌, ◌++◌, length, drop, get_or}
use Rattle.wires.specs.declared.event.Event.{Event}
use Rattle.wires.specs.declared.event.Event.TheVariants.{Rise}
use Rattle.wires.specs.declared.runs.Run.{Run}
use Rattle.wires.specs.Bits.{number_of}
use Rattle.wires.specs.Events.{events_of}
use Rattle.wires.specs.Runs.{levels_in}
use Rattle.smbus.specs.Frames.{rises}
use Rattle.smbus.specs.Machine.{byte_of}

abbrev pub events_in : List Run → List Event
events_in runs = events_of (levels_in runs)

-- so many clocks follow the first of runs, and spell this number
pub record AreClocks (runs : List Run) (count number : ℕ) : Type 0 where
  pub bits : List Bool
  pub long : length bits ≡ count
  pub sum : number ≡ number_of bits
  pub read : events_in runs ≡ rises bits ++ events_in (drop (2 * count) runs)
  pub high : (d : Run) → (get_or runs (2 * count) d).sample.scl ≡ true

-- nine clocks follow, and spell this byte and its acknowledge, and another clock follows them
pub record IsNextByte (runs : List Run) (byte : ℕ × Bool) : Type 0 where
  pub bits : List Bool
  pub nine : length bits ≡ 9
  pub is : byte ≡ byte_of bits
  pub read : events_in runs ≡ rises bits ++ events_in (drop 18 runs)
  pub bit : Bool
  pub more : List Event
  pub next : events_in (drop 18 runs) ≡ Rise bit ∷ more
