use Rattle.std.proofs.Common.{◌≡◌, ◌∙◌, Option, Some, ap, sym, slice_get}
use Rattle.seq_program.specs.declared.instr.Instr.{Instr}
use Rattle.simulator.specs.declared.machine.Ending.TheVariants.{Running}
use Rattle.simulator.specs.Machines.{Machine}
use Rattle.facts.specs.declared.duties.rule.Rule.{Rule}
use Rattle.facts.specs.domain.Sets.{rails_in}
use Rattle.run_monitor.specs.Known.{IsBreach}
use Rattle.run_monitor.proofs.Judged.{when_running, is_running}
use Rattle.run_monitor.proofs.judging.rule_broken.Goals as goal

pub returns-in-Running-clause-told : goal.returns-in-Running-clause-told
returns-in-Running-clause-told c =
    let Q : Option Rule → Type 0 = λ found. (i : Instr)
    → slice_get c.args.program.now c.args.machine.now.place ≡ Some i
    → IsBreach c.args.board.now (rails_in c.args.good) c.args.machine.now i found in
    when_running c.breach_at.result (c.args.machine.now.ended ≡ Running) Q c.breach_at.ensures

pub returns-in-Running-clause-running : goal.returns-in-Running-clause-running
returns-in-Running-clause-running c =
    is_running c.breach_at.result (c.args.machine.now.ended ≡ Running)
    (sym (ap (λ (m : Machine). m.ended) c.machine.view_is) ∙ c.in-Running.is)
