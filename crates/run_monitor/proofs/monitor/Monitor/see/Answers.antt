use Rattle.std.proofs.Common.{ap, sym, ◌∙◌}
use Rattle.std.proofs.lemmas.Result.{on_ok_weaker}
use Rattle.simulator.specs.Machines.{Machine}
use Rattle.run_monitor.proofs.Seen.{broken}
use Rattle.run_monitor.proofs.monitor.Monitor.see.Goals as goal

pub returns-in-Some : goal.returns-in-Some
returns-in-Some c =
    let place = ap (λ (m : Machine). m.place) c.machine.view_is in
    let running = rw c.in-Some.is at c.in_ok-rule.ensures.running in
    let told = rw c.in-Some.is at c.in_ok-rule.ensures.told in
    on_ok_weaker c.keep.result
    (broken c.args.board.now c.args.program.now c.args.machine.now c.args.answer.now c.args.index
    c.machine.inside.place c.args.self.now c.keep.new.self c.in-Some.rule
    (sym c.is_some.ensures ∙ c.if-is_some.false) running told place)
    c.keep.ensures
