use Rattle.std.proofs.Common.{sym, subst}
use Rattle.seq_program.specs.RequestViews.{transaction_view}
use Rattle.facts.specs.declared.duties.rule.Rule.TheVariants.{K2}
use Rattle.facts.specs.domain.Rows.{row_view}
use Rattle.facts.specs.duties.Blaming.{Blames}
use Rattle.facts.proofs.Coded.Refused.{k2_none}
use Rattle.facts.proofs.duties.judging.read_of_all.Goals as goal

pub returns-in_err-command : goal.returns-in_err-command
returns-in_err-command c = λ b.
    let row = row_view c.args.row.now in
    let x = transaction_view c.args.transaction.now in
    subst (Blames b row c.args.target x K2) (sym c.from_residual.ensures)
    (k2_none b row c.args.target x c.in_err-command.was)
