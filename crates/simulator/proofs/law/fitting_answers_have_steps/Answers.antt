use Rattle.simulator.proofs.FittingSteps.{fitting_answers_have_steps, going_on_has_steps}
use Rattle.simulator.proofs.law.fitting_answers_have_steps.Goals as goal

pub returns-clause-steps : goal.returns-clause-steps
returns-clause-steps c = fitting_answers_have_steps c.answers_have_states.ensures

pub returns-clause-going_on : goal.returns-clause-going_on
returns-clause-going_on c = going_on_has_steps c.answers_have_states.ensures
