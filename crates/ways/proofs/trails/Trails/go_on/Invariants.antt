use Rattle.std.proofs.Common.{◌≡◌, drop}
use Rattle.ways.specs.Trails.{AddsTrails}
use Rattle.ways.proofs.trails.Trails.go_on.Given as goal

-- so far each edge led to a trail, if it brought something new
abbrev pub invariant-loop-edge : goal.invariant-loop-edge
invariant-loop-edge l = record {
  adds : AddsTrails l.before l.fn.list.items l.fn.self.trails.items l.self.trails.items;
  left : l.edge-iterator.iter.rest.items ≡ drop l.edge-iterator.count l.fn.list.items;
  same : l.before ≡ l.fn.before;
}
