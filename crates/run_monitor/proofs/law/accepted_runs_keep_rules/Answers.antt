use Rattle.run_monitor.proofs.Rules.{keep_rules}
use Rattle.run_monitor.proofs.law.accepted_runs_keep_rules.Goals as goal

pub returns : goal.returns
returns c =
    keep_rules c.covered_rows_follow.ensures.duties c.tables_are_judged_by_place.ensures.whole
