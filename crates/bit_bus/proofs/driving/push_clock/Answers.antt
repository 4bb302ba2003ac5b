use Rattle.bit_bus.specs.Levels.{low_run}
use Rattle.bit_bus.proofs.driving.push_clock.Goals as goal

pub returns-clause-clock : goal.returns-clause-clock
unfolding low_run
returns-clause-clock c = rw (← c.from.ensures) c.push_clock.ensures.samples
