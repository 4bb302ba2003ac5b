use Rattle.std.proofs.Common.{◌≡◌, ◌++◌, drop, map}
use Rattle.facts.specs.domain.Sets.{only, protects_in}
use Rattle.run_monitor.proofs.known.stored_protects.Given as goal

abbrev pub invariant-loop-protect : goal.invariant-loop-protect
invariant-loop-protect l =
    map protects_in l.sets.items ++ map only (drop l.protect-index l.protects) ≡ map only l.protects
