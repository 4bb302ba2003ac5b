use Rattle.std.proofs.Common.{length}
use Rattle.smbus.specs.Clocks.{events_in}
use Rattle.smbus.specs.Machine.{reading_of, start, Leads}
use Rattle.smbus.proofs.observing.frames_in.Given as goal

abbrev pub invariant-loop-rest : goal.invariant-loop-rest
invariant-loop-rest l =
    Leads start (events_in l.runs) (reading_of l.reading) (events_in l.rest)

abbrev pub decreases-loop-rest : goal.decreases-loop-rest
decreases-loop-rest l = length l.rest
