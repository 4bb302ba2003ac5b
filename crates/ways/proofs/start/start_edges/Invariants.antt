use Rattle.std.proofs.Common.{All}
use Rattle.ways.specs.Trails.{IsStartEdge}
use Rattle.ways.proofs.start.start_edges.Given as goal

abbrev pub invariant-loop-number : goal.invariant-loop-number
invariant-loop-number l = All (IsStartEdge l.board) l.edges.items
