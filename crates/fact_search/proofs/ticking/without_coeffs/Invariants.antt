use Rattle.std.proofs.Common.{◌≡◌, map, take}
use Rattle.fact_search.specs.Ticking.{plain}
use Rattle.fact_search.proofs.ticking.without_coeffs.Given as goal

abbrev pub invariant-loop-base : goal.invariant-loop-base
invariant-loop-base l = l.lefts.items ≡ map plain (take l.base-index l.ticks)
