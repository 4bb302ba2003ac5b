use Rattle.std.proofs.Common.{◌≤◌}
use Rattle.simulator.specs.ForeignTicks.{foreign_ticks}
use Rattle.fact_search.proofs.lost.dearest_loss.Given as goal

abbrev pub invariant-loop-place : goal.invariant-loop-place
invariant-loop-place l = l.most ≤ foreign_ticks l.board
