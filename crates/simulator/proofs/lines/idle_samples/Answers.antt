use Rattle.simulator.specs.Entries.{idle_samples}
use Rattle.simulator.proofs.lines.idle_samples.Goals as goal

pub returns : goal.returns
unfolding idle_samples
returns c =
    let pushed = rw c.clear.ensures at c.push.ensures.ok in
    rw (← c.idle.ensures, ← c.from.ensures) pushed
