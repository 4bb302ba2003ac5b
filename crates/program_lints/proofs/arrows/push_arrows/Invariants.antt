use Rattle.std.proofs.Common.{◌≡◌, ◌++◌, drop, map}
use Rattle.program_lints.specs.Flows.{arrow_from}
use Rattle.program_lints.proofs.arrows.push_arrows.Given as goal

abbrev pub invariant-loop-to : goal.invariant-loop-to
invariant-loop-to l =
    l.arrows.items ++ map (arrow_from l.place) (drop l.to-index l.edges)
    ≡ l.fn.arrows.items ++ map (arrow_from l.place) l.edges
