use Rattle.std.proofs.Common.{◌≡◌, ◌≤◌, All, take}
use Rattle.simulator.specs.Faults.{most_ticks}
use Rattle.simulator.specs.Machines.{IsMachine}
use Rattle.simulator.specs.Steps.{IsRun, total_ticks}
use Rattle.simulator.specs.Traces.{HasItsFrame}
use Rattle.simulator.proofs.running.run.Given as goal

-- a run by the answers before this one
abbrev pub invariant-loop-index : goal.invariant-loop-index
invariant-loop-index l =
    IsRun l.board l.program l.machine (take l.index l.answers) l.entries.items l.last
    × IsMachine l.board l.program l.last
    × All HasItsFrame l.entries.items
    × (l.ticks ≡ total_ticks l.entries.items)
    × (l.ticks ≤ most_ticks)
