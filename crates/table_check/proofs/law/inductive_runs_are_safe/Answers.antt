use Rattle.table_check.proofs.Whole.{inductive_runs, verdicts}
use Rattle.table_check.proofs.law.inductive_runs_are_safe.Goals as goal

pub returns-clause-runs : goal.returns-clause-runs
returns-clause-runs c =
    inductive_runs
    (record {
      sound = c.steps_are_sound.ensures.steps;
      sends = c.steps_are_sound.ensures.sends;
      admits = c.covered_rows_follow.ensures.admits;
      seen = c.steps_are_seen.ensures.steps;
      starts = c.steps_are_seen.ensures.starts;
      runs = c.safe_steps_are_safe_runs.ensures.runs;
    })

pub returns-clause-verdicts : goal.returns-clause-verdicts
returns-clause-verdicts c =
    verdicts
    (record {
      sound = c.steps_are_sound.ensures.steps;
      sends = c.steps_are_sound.ensures.sends;
      admits = c.covered_rows_follow.ensures.admits;
      seen = c.steps_are_seen.ensures.steps;
      starts = c.steps_are_seen.ensures.starts;
      runs = c.safe_steps_are_safe_runs.ensures.runs;
    })
