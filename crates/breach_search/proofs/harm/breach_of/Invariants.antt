use Rattle.simulator.specs.Machines.{start_state}
use Rattle.breach_search.proofs.Watched.{IsSoFar}
use Rattle.breach_search.proofs.harm.breach_of.Given as goal

abbrev pub invariant-loop-index : goal.invariant-loop-index
invariant-loop-index l =
    IsSoFar l.board l.program (start_state l.from.pages.items l.from.protects.items) l.answers
    l.index l.ticks l.stage.machine l.watch
