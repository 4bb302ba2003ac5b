use Rattle.std.proofs.Common.{◌≡◌, ◌<◌, ap, subst, take, All}
use Rattle.std.proofs.lemmas.List.{take_all}
use Rattle.simulator.specs.Faults.{RunFails}
use Rattle.simulator.specs.Machines.{Machine, Entry}
use Rattle.simulator.proofs.Runs.{fails_here, passed_on, out_of_memory, next_run, seen_more}
use Rattle.simulator.proofs.Runs.{sum_more, still_within}
use Rattle.simulator.proofs.running.run.Goals as goal

pub returns-in_err-step-clause-fault : goal.returns-in_err-step-clause-fault
returns-in_err-step-clause-fault c =
    passed_on c.from_residual-in_err-step.result c.in_err-step.field-0.0
    (λ e. RunFails c.args.board.now c.args.program.now c.args.machine.now c.args.answers.now e)
    c.from_residual-in_err-step.ensures.1
    (λ real.
    fails_here c.args.board.now c.args.program.now c.args.machine.now c.loop-index.last
    c.args.answers.now c.loop-index.entries.items c.loop-index.index c.loop-index.ticks
    c.index-answers-index.result c.in_err-step.field-0.0
    c.loop-index.invariant.0 c.loop-index.invariant.3 c.loop-index.invariant.4
    c.loop-index-test.true c.index-answers-index.is
    (rw c.new-stage.ensures at c.in_err-step.ensures.fault real))

pub returns-in_err-push-clause-fault : goal.returns-in_err-push-clause-fault
returns-in_err-push-clause-fault c =
    out_of_memory c.from_residual-in_err-push.result
    (λ e. RunFails c.args.board.now c.args.program.now c.args.machine.now c.args.answers.now e)
    c.from_residual-in_err-push.ensures.1

pub loop-index-preserved : goal.loop-index-preserved
loop-index-preserved c =
    let run =
    next_run c.args.board.now c.args.program.now c.args.machine.now c.loop-index.last
    c.step.new.self.machine c.args.answers.now c.loop-index.entries.items c.loop-index.index
    c.index-answers-index.result c.step.new.self.entry
    c.loop-index-test.true c.index-answers-index.is c.loop-index.invariant.0
    (rw c.new-stage.ensures at c.in_ok-step.ensures.step) in
    let same = ap (λ (e : Entry). e.ticks) c.entry.view_is in
    rw (c.in_ok-push.ensures.items) (
      run,
      c.in_ok-step.ensures.machine,
      seen_more c.loop-index.entries.items c.step.new.self.entry c.loop-index.invariant.2
          c.in_ok-step.ensures.seen,
      sum_more c.loop-index.entries.items c.step.new.self.entry c.loop-index.ticks
          c.entry.inside.ticks c.loop-index.invariant.3 same,
      still_within c.step.new.self.entry c.loop-index.ticks c.entry.inside.ticks same
          c.in_ok-step.ensures.within,
    )

pub returns-clause-seen : goal.returns-clause-seen
returns-clause-seen c =
    let b = c.args.board.now in
    let p = c.args.program.now in
    let m = c.args.machine.now in
    let words : All (λ word. word < 65536) m.regs =
    subst (λ (x : Machine). All (λ word. word < 65536) x.regs) c.machine.view_is
    c.registers_are_words.ensures in
    let all : take c.loop-index.index c.args.answers.now ≡ c.args.answers.now =
    take_all c.loop-index.index c.args.answers.now c.loop-index-test.false in
    let run = rw all at c.loop-index.invariant.0 in
    c.runs_are_seen.ensures b p m c.loop-index.last c.args.answers.now c.loop-index.entries.items
    c.board_is_valid.ensures c.program_is_valid.ensures
    (record { machine = c.requires.machine; words = words }) run
