use Rattle.targets.proofs.Answering.{values_within, lengths_within}
use Rattle.targets.proofs.law.ranges_are_of_forms.Goals as goal

pub returns-clause-values : goal.returns-clause-values
returns-clause-values c = values_within

pub returns-clause-lengths : goal.returns-clause-lengths
returns-clause-lengths c = lengths_within
