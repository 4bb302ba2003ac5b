use Rattle.table_check.proofs.FirstVersion.{stay_accepted, judged_alike}
use Rattle.table_check.proofs.FlatCase.{some_flat_case}
use Rattle.table_check.proofs.law.uncounted_tables_are_judged.Goals as goal

pub returns-clause-stay : goal.returns-clause-stay
returns-clause-stay c =
    stay_accepted
    record {
      otherwise = c.covered_rows_follow.ensures.otherwise;
      goes_on = c.covered_rows_follow.ensures.goes_on;
    }

pub returns-clause-alike : goal.returns-clause-alike
returns-clause-alike c = judged_alike

pub returns-clause-case : goal.returns-clause-case
returns-clause-case c = some_flat_case
