use Rattle.std.proofs.Common.{length}
use Rattle.ways.proofs.Following.{IsFollowed}
use Rattle.ways.proofs.trails.Trails.into_way.Given as goal

abbrev pub invariant-loop-next : goal.invariant-loop-next
invariant-loop-next l =
    IsFollowed l.fn.self.trails.items l.trails.items l.fn.number l.next l.way.items

abbrev pub decreases-loop-next : goal.decreases-loop-next
decreases-loop-next l = length l.trails.items
