use Rattle.std.proofs.Common.{Some, sym, subst}
use Rattle.facts.specs.declared.duties.rule.Rule.{Rule}
use Rattle.facts.specs.domain.Rows.{row_view}
use Rattle.facts.specs.duties.Duties.{duties, IsFirstFailing}
use Rattle.facts.proofs.duties.judging.duty.Goals as goal

pub returns : goal.returns
returns c =
    subst (λ (rule : Rule). IsFirstFailing c.args.board.now (row_view c.args.row.now)
    c.args.instr.now duties (Some rule))
    (sym c.rule.ensures) c.in_ok-violation.ensures.first
