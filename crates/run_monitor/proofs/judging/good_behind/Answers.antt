use Rattle.std.proofs.Common.{◌≡◌, ◌<◌, ◌∙◌, ℕ, length, Option, None, option_map, Bor, ap}
use Rattle.std.proofs.Common.{sym, subst}
use Rattle.smbus.specs.Asked.{Asked}
use Rattle.smbus.specs.Winners.{carried}
use Rattle.seq_program.specs.Messages.{message_of}
use Rattle.simulator.specs.Machines.{Machine}
use Rattle.facts.specs.domain.Sets.{rails_in}
use Rattle.run_monitor.specs.Telling.{TellsAfter}
use Rattle.run_monitor.proofs.Judged.{after_step, quiet_tells}
use Rattle.run_monitor.proofs.judging.good_behind.Goals as goal

pub returns : goal.returns
returns c = λ history e next ready step known.
    let b = c.args.board.now in
    let p = c.args.program.now in
    let m = c.args.machine.now in
    let a = c.args.answer.now in
    let i = c.instr_of-instr.result.now in
    let here = c.instr_of-instr.ensures in
    let sent = option_map (λ (m : Bor Asked). m.now) c.carried-sent.result in
    let is : sent ≡ carried (message_of b i m.regs) a =
    c.carried-sent.ensures ∙ ap (λ (o : Option Asked). carried o a)
    (c.as_ref.ensures.value ∙ c.in_ok-message.ensures
    ∙ ap (λ (x : Machine). message_of b i x.regs) c.machine.view_is) in
    let P : Machine → Type 0 = λ x. (d : ℕ) → d < length b.rails
    → TellsAfter b x.bus sent a d (rails_in c.args.good d)
    (rails_in c.good_with.result d) in
    after_step b p m next a e i sent history
    (rails_in c.args.good) (rails_in c.good_with.result)
    (c.steps_are_seen.ensures.steps b p m next a e c.board_is_valid.ensures
    c.program_is_valid.ensures ready step)
    here is
    (subst P c.machine.view_is c.good_with.ensures.tells)
    (c.good_with.ensures.rails known.rails) known

pub returns-then-is_silent : goal.returns-then-is_silent
returns-then-is_silent c = λ history e next ready step known.
    let b = c.args.board.now in
    let p = c.args.program.now in
    let m = c.args.machine.now in
    let a = c.args.answer.now in
    let i = c.instr_of-instr.result.now in
    let good = rails_in c.args.good in
    after_step b p m next a e i None history good good
    (c.steps_are_seen.ensures.steps b p m next a e c.board_is_valid.ensures
    c.program_is_valid.ensures ready step)
    c.instr_of-instr.ensures
    (sym (ap (λ (o : Option Asked). carried o a)
    (c.is_silent.ensures.message c.if-is_silent.true b m.regs)))
    (λ d lt. quiet_tells b m.bus a d (good d)) known.rails known
