use Rattle.plans.proofs.OneBad.{bad_is_no_plan}
use Rattle.plans.proofs.PlanRead.{first_bad_is_one}
use Rattle.plans.proofs.law.texts_have_one_reading.Goals as goal

pub returns-clause-none : goal.returns-clause-none
returns-clause-none c = bad_is_no_plan

pub returns-clause-one : goal.returns-clause-one
returns-clause-one c = first_bad_is_one
