use Rattle.table_check.proofs.AdmittedRuns.{starts_are_admitted, steps_stay_admitted}
use Rattle.table_check.proofs.law.accepted_runs_are_admitted.Goals as goal

pub returns-clause-starts : goal.returns-clause-starts
returns-clause-starts c =
    starts_are_admitted
    (record {
      sound = c.steps_are_sound.ensures.steps;
      sends = c.steps_are_sound.ensures.sends;
      admits = c.covered_rows_follow.ensures.admits;
      seen = c.steps_are_seen.ensures.steps;
      starts = c.steps_are_seen.ensures.starts;
      runs = c.safe_steps_are_safe_runs.ensures.runs;
    })

pub returns-clause-steps : goal.returns-clause-steps
returns-clause-steps c =
    steps_stay_admitted
    (record {
      sound = c.steps_are_sound.ensures.steps;
      sends = c.steps_are_sound.ensures.sends;
      admits = c.covered_rows_follow.ensures.admits;
      seen = c.steps_are_seen.ensures.steps;
      starts = c.steps_are_seen.ensures.starts;
      runs = c.safe_steps_are_safe_runs.ensures.runs;
    })
