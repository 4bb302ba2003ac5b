use Rattle.session.specs.Planned.{planned_view}
use Rattle.session.proofs.SparedPlans.{spared}
use Rattle.session.proofs.drafting.draft_text.Goals as goal

pub returns-in_err-program-clause-fault : goal.returns-in_err-program-clause-fault
returns-in_err-program-clause-fault c =
    spared c.from_residual-in_err-program.result _ (planned_view c.args.planned.now)
    c.in_ok-body.ensures.drafted
    c.from_residual-in_err-program.ensures.1 c.in_err-program.ensures.fault

pub returns-in_err-table-clause-fault : goal.returns-in_err-table-clause-fault
returns-in_err-table-clause-fault c =
    spared c.from_residual-in_err-table.result _ (planned_view c.args.planned.now)
    c.in_ok-body.ensures.drafted
    c.from_residual-in_err-table.ensures.1 c.in_err-table.ensures
