use Rattle.std.proofs.Common.{length}
use Rattle.fact_search.proofs.components.Walk.take_component.Given as goal

abbrev pub decreases-loop-last : goal.decreases-loop-last
decreases-loop-last l = length l.self.open.items
