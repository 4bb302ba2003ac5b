use Rattle.std.proofs.Common.{◌≡◌, ◌++◌, drop, map}
use Rattle.fact_search.specs.Ticking.{later, paid}
use Rattle.fact_search.proofs.lost.paid.Given as goal

abbrev pub invariant-loop-left : goal.invariant-loop-left
invariant-loop-left l =
    l.out.items ++ map (later l.lost) (drop l.left-index l.rest) ≡ paid l.lost l.fn.most l.fn.lefts
