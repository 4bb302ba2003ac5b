use Rattle.std.proofs.Common.{◌≡◌, ◌&&◌, drop}
use Rattle.bit_bus.specs.Planned.{are_inside}
use Rattle.bit_bus.proofs.plan.are_inside.Given as goal

abbrev pub invariant-loop-slot : goal.invariant-loop-slot
invariant-loop-slot l =
    (l.inside && are_inside (drop l.slot-index l.slots)) ≡ are_inside l.slots
