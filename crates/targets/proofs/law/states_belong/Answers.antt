use Rattle.targets.proofs.StateLawProofs.{starts_belong, steps_belong}
use Rattle.targets.proofs.law.states_belong.Goals as goal

pub returns-clause-starts : goal.returns-clause-starts
returns-clause-starts c = starts_belong

pub returns-clause-steps : goal.returns-clause-steps
returns-clause-steps c = steps_belong
