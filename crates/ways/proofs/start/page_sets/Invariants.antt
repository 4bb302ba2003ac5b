use Rattle.std.proofs.Common.{take}
use Rattle.ways.specs.Starts.{AreStartPages}
use Rattle.ways.proofs.start.page_sets.Given as goal

abbrev pub invariant-loop-target : goal.invariant-loop-target
invariant-loop-target l = AreStartPages (take l.target-index l.targets) l.sets.items
