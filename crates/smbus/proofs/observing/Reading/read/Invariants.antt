use Rattle.std.proofs.Common.{◌≡◌, drop}
use Rattle.smbus.specs.Machine.{reading_of, run}
use Rattle.smbus.proofs.observing.Reading.read.Given as goal

abbrev pub invariant-loop-event : goal.invariant-loop-event
invariant-loop-event l =
    run (drop l.event-index l.events) (reading_of l.self)
    ≡ run l.events (reading_of l.initial.self)
