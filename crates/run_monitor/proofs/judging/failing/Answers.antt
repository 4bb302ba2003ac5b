use Rattle.std.proofs.Common.{subst}
use Rattle.facts.specs.duties.Duties.{IsFirstFailing, duties}
use Rattle.facts.specs.domain.Rows.{Row}
use Rattle.run_monitor.proofs.judging.failing.Goals as goal

pub returns : goal.returns
returns c =
    subst (λ (r : Row). IsFirstFailing c.args.board.now r c.args.instr.now duties c.duty.result)
    c.in_ok-row.ensures c.duty.ensures
