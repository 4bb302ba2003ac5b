use Rattle.std.proofs.Common.{◌∙◌, ap, sym, subst, refl, Option}
use Rattle.std.specs.Prelude.{option_copied}
use Rattle.std.proofs.lemmas.Bool.{false≢true}
use Rattle.smbus.specs.Asked.{Asked}
use Rattle.targets.specs.Fitting.{FitsStep}
use Rattle.seq_program.specs.Messages.{message_of}
use Rattle.simulator.specs.Machines.{Machine}
use Rattle.simulator.specs.declared.stepping.Stage.{Stage}
use Rattle.simulator.proofs.NextPlaces.{stepped_place, past}
use Rattle.simulator.proofs.MadeSteps.{step_here}
use Rattle.simulator.proofs.stepping.Stage.step.Goals as goal

pub returns-then-not-fits-clause-fault : goal.returns-then-not-fits-clause-fault
returns-then-not-fits-clause-fault c = λ real. (
  record {
    running = c.is_running.ensures.0 c.if-not-is_running.false;
    instr = c.instr_of-instr.result.now;
    here = c.instr_of-instr.ensures.at;
    outside = λ fit. false≢true (sym c.if-not-fits.true ∙ c.fits.ensures.1 (subst
        (λ (m : Machine). FitsStep c.args.board.now m.bus
        (option_copied c.as_ref-message.result) c.args.answer.now)
        (sym c.machine.view_is)
        (subst (λ (o : Option Asked).
        FitsStep c.args.board.now c.args.self.now.machine.bus o c.args.answer.now)
        (sym (c.as_ref-message.ensures.value ∙ c.in_ok-message.ensures
        ∙ ap (λ (m : Machine). message_of c.args.board.now c.instr_of-instr.result.now m.regs)
        c.machine.view_is)) fit)));
  },
  refl,
)

pub returns-clause-step : goal.returns-clause-step
returns-clause-step c =
    step_here c.args.board.now c.args.program.now c.instr_of-instr.result.now _
    c.args.self.now.machine c.args.answer.now c.step_by.new.entry c.step_by.new.machine
    (c.is_running.ensures.0 c.if-not-is_running.false) c.instr_of-instr.ensures.at
    (c.as_ref-message.ensures.value ∙ c.in_ok-message.ensures
    ∙ ap (λ (m : Machine). message_of c.args.board.now c.instr_of-instr.result.now m.regs)
    c.machine.view_is) c.in_ok-step_by.ensures.step

pub returns-clause-machine : goal.returns-clause-machine
returns-clause-machine c = record {
  place =
      stepped_place c.args.board.now c.args.program.now c.instr_of-instr.result.now _
      c.args.self.now.machine c.args.answer.now c.step_by.new.entry c.step_by.new.machine
      c.instr_of-instr.ensures.program c.instr_of-instr.ensures.at
      (c.as_ref-message.ensures.value ∙ c.in_ok-message.ensures
      ∙ ap (λ (m : Machine). message_of c.args.board.now c.instr_of-instr.result.now m.regs)
      c.machine.view_is) c.in_ok-step_by.ensures.step;
  bus = c.in_ok-step_by.ensures.belongs c.requires.machine.bus;
}

pub returns-then-self-before-clause-fault : goal.returns-then-self-before-clause-fault
returns-then-self-before-clause-fault c = λ real. record {
  entry = c.step_by.new.entry;
  next = c.step_by.new.machine;
  step =
      step_here c.args.board.now c.args.program.now c.instr_of-instr.result.now _
      c.args.self.now.machine c.args.answer.now c.step_by.new.entry c.step_by.new.machine
      (c.is_running.ensures.0 c.if-not-is_running.false) c.instr_of-instr.ensures.at
      (c.as_ref-message.ensures.value ∙ c.in_ok-message.ensures
      ∙ ap (λ (m : Machine). message_of c.args.board.now c.instr_of-instr.result.now m.regs)
      c.machine.view_is) c.in_ok-step_by.ensures.step;
  long =
      past c.args.before _ c.step_by.new.entry.ticks c.if-self-before.true
      (ap (λ (s : Stage). s.entry.ticks) c.self.view_is);
}
