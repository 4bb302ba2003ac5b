use Rattle.std.proofs.Common.{◌≡◌, ◌≤◌, [], List, Some, length}
use Rattle.smbus.specs.Shown.{Shown}
use Rattle.smbus.specs.Clocks.{events_in}
use Rattle.smbus.specs.Machine.{state_of, Leads}
use Rattle.smbus.proofs.observing.OpenFrame.take_clocks.Given as goal

abbrev pub invariant-loop-byte : goal.invariant-loop-byte
invariant-loop-byte l = record {
  leads :
      (frames : List Shown)
      → Leads (state_of frames (Some l.fn.self)) (events_in l.runs)
      (state_of frames (Some l.self)) (events_in l.rest);
  none : l.self.bits.items ≡ [];
  fewer : length l.rest ≤ length l.runs;
}

abbrev pub decreases-loop-byte : goal.decreases-loop-byte
decreases-loop-byte l = length l.rest
