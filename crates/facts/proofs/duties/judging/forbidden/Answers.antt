use Rattle.std.proofs.Common.{◌∙◌, None, Some, sym, subst}
use Rattle.seq_program.specs.RequestViews.{transaction_view}
use Rattle.pmbus_table.specs.Protect.{protections}
use Rattle.facts.specs.declared.duties.rule.Rule.TheVariants.{K3}
use Rattle.facts.specs.domain.Rows.{row_view}
use Rattle.facts.specs.duties.Permitting.{PermitsAt}
use Rattle.facts.specs.duties.Blaming.{FindsItem, Blames}
use Rattle.facts.proofs.Coded.Refused.{k3_none, k3}
use Rattle.facts.proofs.duties.judging.forbidden.Goals as goal

pub returns-in_err-command : goal.returns-in_err-command
returns-in_err-command c = λ b.
    let row = row_view c.args.row.now in
    let x = transaction_view c.args.transaction.now in
    subst (Blames b row c.args.target x K3) (sym c.from_residual.ensures)
    (k3_none b row c.args.target x c.in_err-command.was (c.requires c.in_err-command.was))

pub returns-in_err-protect : goal.returns-in_err-protect
returns-in_err-protect c = λ b.
    let row = row_view c.args.row.now in
    let x = transaction_view c.args.transaction.now in
    subst (Blames b row c.args.target x K3) (sym c.from_residual-in_err-protect.ensures)
    (k3 b row c.args.target x c.in_ok-command.command c.protects_at.result None
    c.in_ok-command.was c.protects_at.ensures
    (sym c.counts_as_write.ensures.value ∙ c.if-not-counts_as_write.false)
    (subst (λ n. FindsItem (PermitsAt c.protects_at.result n) protections None)
    c.code.ensures.code c.in_err-protect.ensures))

pub returns : goal.returns
returns c = λ b.
    let row = row_view c.args.row.now in
    let x = transaction_view c.args.transaction.now in
    let protect = c.in_ok-protect.protect in
    k3 b row c.args.target x c.in_ok-command.command c.protects_at.result (Some protect)
    c.in_ok-command.was c.protects_at.ensures
    (sym c.counts_as_write.ensures.value ∙ c.if-not-counts_as_write.false)
    (subst (λ n. FindsItem (PermitsAt c.protects_at.result n) protections (Some protect))
    c.code.ensures.code c.in_ok-protect.ensures)
