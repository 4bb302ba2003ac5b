use Rattle.simulator.proofs.SeenSteps.{steps_are_seen, starts_are_ready}
use Rattle.simulator.proofs.TakenStep.{some_step_is_taken}
use Rattle.simulator.proofs.law.steps_are_seen.Goals as goal

pub returns-clause-steps : goal.returns-clause-steps
returns-clause-steps c =
    steps_are_seen (record {
      on_wire = c.fitting_bytes_are_on_wire.ensures;
      lengths = c.ranges_are_of_forms.ensures.lengths;
      start = c.contenders_may_win.ensures.driven;
      reads = c.entries_read_back.ensures.one;
      does = c.entries_read_back.ensures.does;
      idle = c.entries_read_back.ensures.none;
      foreign = c.entries_read_back.ensures.foreign;
    }) c.states_belong.ensures.steps

pub returns-clause-starts : goal.returns-clause-starts
returns-clause-starts c = starts_are_ready c.states_belong.ensures.starts

pub returns-clause-some : goal.returns-clause-some
returns-clause-some c =
    some_step_is_taken c.states_belong.ensures.starts c.some_answer_fits.ensures.case
