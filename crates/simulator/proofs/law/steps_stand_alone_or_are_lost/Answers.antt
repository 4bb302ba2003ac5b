use Rattle.simulator.proofs.EitherSteps.{either_step, stands_alone, some_step_is_lost}
use Rattle.simulator.proofs.law.steps_stand_alone_or_are_lost.Goals as goal

pub returns-clause-either : goal.returns-clause-either
returns-clause-either c = either_step

pub returns-clause-alone : goal.returns-clause-alone
returns-clause-alone c = stands_alone

pub returns-clause-some : goal.returns-clause-some
returns-clause-some c =
    some_step_is_lost c.contenders_may_win.ensures.may c.contenders_may_win.ensures.case
    c.states_belong.ensures.starts c.answers_have_states.ensures
