use Rattle.std.proofs.Common.{refl}
use Rattle.std.specs.Prelude.{Option}
use Rattle.std.proofs.lemmas.Result.{IfOk-weaker}
use Rattle.facts.specs.duties.Duties.{IsFirstFailing, duties}
use Rattle.facts.specs.declared.duties.rule.Rule.{Rule}
use Rattle.facts.specs.domain.Sets.{rails_in}
use Rattle.run_monitor.specs.Known.{known_row}
use Rattle.run_monitor.proofs.Judged.{first_failing, silent_at}
use Rattle.run_monitor.proofs.judging.breach_at.Goals as goal

pub returns-then-is_silent : goal.returns-then-is_silent
returns-then-is_silent c = λ i here.
    let b = c.args.board.now in
    let p = c.args.program.now in
    let m = c.args.machine.now in
    silent_at b p m.place c.instr_of-instr.result.now i
    (known_row m (rails_in c.args.good))
    c.instr_of-instr.ensures here (c.is_silent.ensures.request c.if-is_silent.true)

pub returns : goal.returns
returns c =
    let b = c.args.board.now in
    let p = c.args.program.now in
    let m = c.args.machine.now in
    let known = known_row m (rails_in c.args.good) in
    let Fails : Option Rule → Type 0 = λ found.
    IsFirstFailing b known c.instr_of-instr.result.now duties found in
    IfOk-weaker c.failing.result Fails _
    (λ found fails. λ i here.
    first_failing b p m.place c.instr_of-instr.result.now i known known found
    c.instr_of-instr.ensures here refl fails) c.failing.ensures
