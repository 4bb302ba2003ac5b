use Rattle.std.proofs.Common.{◌≡◌, take, Some}
use Rattle.smbus.specs.Control.{control_after}
use Rattle.smbus.proofs.control.Control.over.Given as goal

abbrev pub invariant-loop-place : goal.invariant-loop-place
invariant-loop-place l = control_after (take l.place l.events) l.initial.control ≡ Some l.control
