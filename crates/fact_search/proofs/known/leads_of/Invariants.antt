use Rattle.std.proofs.Common.{◌≡◌, ◌++◌, drop, map}
use Rattle.facts.specs.transfer.Ways.{timed_view}
use Rattle.fact_search.specs.Leading.{leads_of}
use Rattle.fact_search.proofs.known.leads_of.Given as goal

abbrev pub invariant-loop-edge : goal.invariant-loop-edge
invariant-loop-edge l =
    l.leads.items ++ leads_of (map timed_view (drop l.edge-index l.edges))
    ≡ leads_of (map timed_view l.edges)
