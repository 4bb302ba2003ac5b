use Rattle.std.proofs.Common.{◌≡◌, ◌≤◌, [], List, Some, length}
use Rattle.smbus.specs.Shown.{Shown}
use Rattle.smbus.specs.Machine.{state_of, Leads}
use Rattle.smbus.proofs.observing.OpenFrame.take_bytes.Given as goal

abbrev pub invariant-loop-rest : goal.invariant-loop-rest
invariant-loop-rest l = record {
  leads :
      (frames : List Shown)
      → Leads (state_of frames (Some l.fn.self)) l.events (state_of frames (Some l.self)) l.rest;
  none : l.self.bits.items ≡ [];
  fewer : length l.rest ≤ length l.events;
}

abbrev pub decreases-loop-rest : goal.decreases-loop-rest
decreases-loop-rest l = length l.rest
