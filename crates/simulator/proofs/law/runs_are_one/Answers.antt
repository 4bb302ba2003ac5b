use Rattle.simulator.proofs.OneRun.{one_step, one_run}
use Rattle.simulator.proofs.law.runs_are_one.Goals as goal

pub returns-clause-steps : goal.returns-clause-steps
returns-clause-steps c = one_step

pub returns-clause-runs : goal.returns-clause-runs
returns-clause-runs c = one_run
