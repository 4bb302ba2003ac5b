use Rattle.std.proofs.Common.{◌∙◌, None, Some, sym, subst, refl}
use Rattle.std.proofs.lemmas.Bool.{false≢true}
use Rattle.seq_program.specs.RequestViews.{transaction_view}
use Rattle.facts.specs.declared.duties.rule.Rule.TheVariants.{K5}
use Rattle.facts.specs.domain.Rows.{row_view}
use Rattle.facts.specs.duties.Blaming.{FindsUnready, Blames}
use Rattle.facts.proofs.Coded.Limits.{k5_off, k5}
use Rattle.facts.proofs.duties.judging.unready.Goals as goal

pub returns-then-not-turns_on : goal.returns-then-not-turns_on
returns-then-not-turns_on c =
    k5_off c.args.board.now (row_view c.args.row.now) c.args.target
    (transaction_view c.args.transaction.now)
    (λ on. false≢true (sym c.if-not-turns_on.true ∙ c.turns_on.ensures.1 on))

pub returns-in_err-rail : goal.returns-in_err-rail
returns-in_err-rail c =
    let b = c.args.board.now in
    let row = row_view c.args.row.now in
    let x = transaction_view c.args.transaction.now in
    subst (Blames b row c.args.target x K5) (sym c.from_residual.ensures)
    (k5 b row c.args.target x c.pages_at.result c.args.row.now.good None
    (c.turns_on.ensures.0 c.if-not-turns_on.false) c.pages_at.ensures refl
    (subst (FindsUnready c.pages_at.result c.args.target c.args.row.now.good b.rails)
    c.in_err-rail.was c.first_unready.ensures))

pub returns : goal.returns
returns c =
    let b = c.args.board.now in
    let row = row_view c.args.row.now in
    let x = transaction_view c.args.transaction.now in
    k5 b row c.args.target x c.pages_at.result c.args.row.now.good
    (Some (c.in_ok-rail.rail, c.in_ok-rail.need))
    (c.turns_on.ensures.0 c.if-not-turns_on.false) c.pages_at.ensures refl
    (subst (FindsUnready c.pages_at.result c.args.target c.args.row.now.good b.rails)
    c.in_ok-rail.was c.first_unready.ensures)
