use Rattle.simulator.proofs.SeenRuns.{runs_are_seen}
use Rattle.simulator.proofs.law.runs_are_seen.Goals as goal

pub returns : goal.returns
returns c = runs_are_seen c.steps_are_seen.ensures.steps c.entries_read_back.ensures.joined
