use Rattle.ways.specs.Trails.{AllArrive, AreOrdered}
use Rattle.ways.proofs.search.bad_way.Given as goal

-- each trail begins at a start, and was reached from one before it
abbrev pub invariant-loop-number : goal.invariant-loop-number
invariant-loop-number l = record {
  arrive : AllArrive l.board l.program l.trails.trails.items;
  ordered : AreOrdered l.trails.trails.items;
}
