use Rattle.facts.proofs.Coded.OneAnswer.{blame_breaks, one_is_to_blame}
use Rattle.facts.proofs.law.one_is_to_blame.Goals as goal

pub returns-clause-breaks : goal.returns-clause-breaks
returns-clause-breaks c = blame_breaks

pub returns-clause-one : goal.returns-clause-one
returns-clause-one c = one_is_to_blame
