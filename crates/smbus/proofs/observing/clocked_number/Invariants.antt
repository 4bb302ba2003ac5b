use Rattle.smbus.specs.Clocks.{AreClocks}
use Rattle.smbus.proofs.observing.clocked_number.Given as goal

abbrev pub invariant-loop-place : goal.invariant-loop-place
invariant-loop-place l = AreClocks l.runs l.place l.number
