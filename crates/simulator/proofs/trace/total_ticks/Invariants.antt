use Rattle.std.proofs.Common.{◌≡◌, ◌+◌, drop}
use Rattle.simulator.specs.Steps.{total_ticks}
use Rattle.simulator.proofs.trace.total_ticks.Given as goal

-- what is added, and what is left
abbrev pub invariant-loop-entry : goal.invariant-loop-entry
invariant-loop-entry l =
    l.ticks + total_ticks (drop l.entry-index l.entries) ≡ total_ticks l.entries
