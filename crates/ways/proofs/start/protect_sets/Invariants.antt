use Rattle.std.proofs.Common.{take}
use Rattle.ways.specs.Starts.{AreStartProtects}
use Rattle.ways.proofs.start.protect_sets.Given as goal

abbrev pub invariant-loop-target : goal.invariant-loop-target
invariant-loop-target l = AreStartProtects (take l.target-index l.targets) l.sets.items
