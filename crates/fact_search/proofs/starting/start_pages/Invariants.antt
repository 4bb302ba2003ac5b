use Rattle.std.proofs.Common.{take}
use Rattle.facts.specs.domain.Sets.{pages_in}
use Rattle.fact_search.specs.Starting.{HoldEachStart}
use Rattle.fact_search.proofs.starting.start_pages.Given as goal

abbrev pub invariant-loop-target : goal.invariant-loop-target
invariant-loop-target l =
    HoldEachStart pages_in (λ t. t.start_pages) l.sets.items (take l.target-index l.targets)
