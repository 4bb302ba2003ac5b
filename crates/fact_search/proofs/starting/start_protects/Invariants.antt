use Rattle.std.proofs.Common.{take}
use Rattle.facts.specs.domain.Sets.{protects_in}
use Rattle.fact_search.specs.Starting.{HoldEachStart}
use Rattle.fact_search.proofs.starting.start_protects.Given as goal

abbrev pub invariant-loop-target : goal.invariant-loop-target
invariant-loop-target l =
    HoldEachStart protects_in (λ t. t.start_protects) l.sets.items (take l.target-index l.targets)
