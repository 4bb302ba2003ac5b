-- Each answer that fits has a step: the state after it, and where the instruction leads.
use Rattle.std.proofs.Common.{refl}
use Rattle.targets.specs.Outcomes.{outcome_of}
use Rattle.targets.specs.StateLaws.{AnswersHaveStates}
use Rattle.seq_program.specs.Messages.{message_of}
use Rattle.simulator.specs.Moves.{moved}
use Rattle.simulator.specs.Steps.{step_entry}
use Rattle.simulator.specs.GoingOn.{FittingAnswersHaveSteps, GoingOnHasSteps}
use Rattle.simulator.proofs.MadeSteps.{made_step}

pub fitting_answers_have_steps : AnswersHaveStates → FittingAnswersHaveSteps
fitting_answers_have_steps states b p m i a is belongs running here fits =
    let message = message_of b i m.regs in
    let after = states b m.bus message a is belongs in
    let outcome = outcome_of message a in
    record {
      entry = step_entry i message a m;
      next = moved i message outcome after.state m;
      step =
          record {
            running = running;
            instr = i;
            here = here;
            step =
                made_step b i message m a after.state outcome _ _ fits after.after refl refl refl;
          };
    }

pub going_on_has_steps : AnswersHaveStates → GoingOnHasSteps
going_on_has_steps states b p m is belongs running goes = (
  goes.answer.answer,
  fitting_answers_have_steps states b p m goes.instr goes.answer.answer is belongs running goes.here
      goes.answer.fits,
)
