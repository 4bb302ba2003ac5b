use Rattle.wires.proofs.LastRun.{behind_last}
use Rattle.wires.proofs.wave.steps.levels_behind.Goals as goal

pub returns-in-Some : goal.returns-in-Some
returns-in-Some c =
    behind_last c.args.levels c.args.runs.now c.in-Some.last.now c.in-Some.ensures.value
