use Rattle.std.proofs.Common.{◌≡◌, ◌∙◌, option_map, sym, ap, subst}
use Rattle.targets.specs.States.{BusState}
use Rattle.targets.specs.Effects.{IsAfterStep}
use Rattle.simulator.specs.Machines.{Machine}
use Rattle.simulator.specs.Steps.{step_samples, step_entry}
use Rattle.simulator.specs.Traces.{HasItsFrame}
use Rattle.simulator.proofs.Sendable.{sendable}
use Rattle.simulator.proofs.MadeSteps.{outcome_if, entry_from, same_entry, made_step, seen_entry}
use Rattle.simulator.proofs.stepping.step_by.Goals.{After-swap}
use Rattle.simulator.proofs.stepping.step_by.Goals as goal

pub step_samples-requires-clause-sendable : goal.step_samples-requires-clause-sendable
step_samples-requires-clause-sendable c =
    sendable c.ranges_are_of_forms.ensures.lengths c.contenders_may_win.ensures.driven
    c.args.board.now c.args.machine.now.bus
    c.args.instr.now c.args.machine.now.regs _ c.args.answer.now c.board_is_valid.ensures
    c.requires.instr c.requires.asked c.requires.fits

-- the parts of the entry are those of the step's
entry_is : (c : After-swap)
    → entry_from c.machine.inside.place c.swap.new.x c.step_samples.new.samples
    c.sent_outcome-entry-inside.result c.total-entry-inside.result
    ≡ step_entry c.args.instr.now (option_map (λ m. m.now) c.args.message) c.args.answer.now
    c.args.machine.now
entry_is c =
    let i = c.args.instr.now in
    let o = option_map (λ m. m.now) c.args.message in
    let a = c.args.answer.now in
    same_entry i o a c.args.machine.now c.machine.inside.place c.swap.new.x
    c.step_samples.new.samples c.sent_outcome-entry-inside.result c.total-entry-inside.result
    (ap (λ (m : Machine). m.place) c.machine.view_is)
    (c.swap.ensures.x_after ∙ ap (λ (m : Machine). m.bus) c.machine-2.view_is
    ∙ c.move_on.ensures.bus)
    (c.in_ok-step_samples.ensures ∙ ap (λ (m : Machine). step_samples m.bus i o a)
    c.machine.view_is)
    (c.sent_outcome-entry-inside.ensures ∙ outcome_if (λ m. m.now) c.args.message
    c.in_ok-outcome.outcome a c.in_ok-outcome.ensures.outcome)
    c.total-entry-inside.ensures.total

pub returns-clause-step : goal.returns-clause-step
returns-clause-step c =
    let b = c.args.board.now in
    let i = c.args.instr.now in
    let o = option_map (λ m. m.now) c.args.message in
    let m = c.args.machine.now in
    let a = c.args.answer.now in
    let after : IsAfterStep b m.bus o a c.swap.new.y =
    subst (λ (s : BusState). IsAfterStep b m.bus o a s) (sym c.swap.ensures.y_after)
    (subst (λ (m : Machine). IsAfterStep b m.bus o a c.after_into.new.new) c.machine.view_is
    c.in_ok-outcome.ensures.state) in
    made_step b i o m a c.swap.new.y c.in_ok-outcome.outcome _ _ c.requires.fits after
    c.in_ok-outcome.ensures.outcome
    (ap (λ (m : Machine). record m { bus = c.swap.new.y }) c.machine-2.view_is
    ∙ c.move_on.ensures.machine c.swap.new.y) (entry_is c)

pub returns-clause-seen : goal.returns-clause-seen
returns-clause-seen c =
    let i = c.args.instr.now in
    let o = option_map (λ m. m.now) c.args.message in
    let m = c.args.machine.now in
    let a = c.args.answer.now in
    subst HasItsFrame (sym (entry_is c))
    (seen_entry i o a m c.reads_back.ensures.word c.slots_are_one_frame.ensures.one
    c.contenders_have_one_frame.ensures.one
    (sendable c.ranges_are_of_forms.ensures.lengths c.contenders_may_win.ensures.driven
    c.args.board.now m.bus i m.regs o a
    c.board_is_valid.ensures c.requires.instr c.requires.asked c.requires.fits))
