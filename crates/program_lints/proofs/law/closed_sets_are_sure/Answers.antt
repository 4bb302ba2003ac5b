use Rattle.program_lints.proofs.Runs.{closed_are_off, closed_have_voltages}
use Rattle.program_lints.proofs.law.closed_sets_are_sure.Goals as goal

pub returns-clause-off : goal.returns-clause-off
returns-clause-off c = closed_are_off (record {
  starts = c.accepted_runs_are_admitted.ensures.starts;
  steps = c.accepted_runs_are_admitted.ensures.steps;
  by_place = c.tables_are_judged_by_place.ensures.whole;
  sound = c.steps_are_sound.ensures.steps;
  seen = c.steps_are_seen.ensures.steps;
})

pub returns-clause-voltages : goal.returns-clause-voltages
returns-clause-voltages c = closed_have_voltages (record {
  starts = c.accepted_runs_are_admitted.ensures.starts;
  steps = c.accepted_runs_are_admitted.ensures.steps;
  by_place = c.tables_are_judged_by_place.ensures.whole;
  sound = c.steps_are_sound.ensures.steps;
  seen = c.steps_are_seen.ensures.steps;
})
