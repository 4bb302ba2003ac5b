use Rattle.std.proofs.Common.{take}
use Rattle.smbus.proofs.WholeBytes.{AreRises}
use Rattle.smbus.proofs.observing.byte_of_rises.Given as goal

abbrev pub invariant-loop-event : goal.invariant-loop-event
invariant-loop-event l = AreRises (take l.event-index l.nine) l.number
