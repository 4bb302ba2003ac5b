use Rattle.plans.proofs.Nearest.{nearest_is_found, nearest_is_one}
use Rattle.plans.proofs.law.volts_are_nearest.Goals as goal

pub returns-clause-found : goal.returns-clause-found
returns-clause-found c = nearest_is_found

pub returns-clause-one : goal.returns-clause-one
returns-clause-one c = nearest_is_one
