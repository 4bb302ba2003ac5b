use Rattle.facts.proofs.Belongs.Fitting.{misfit_tells}
use Rattle.facts.proofs.domain.row.Row.misfit.Goals as goal

pub returns-clause-row : goal.returns-clause-row
returns-clause-row c =
    misfit_tells c.args.board.now c.args.self.now c.first_misfit.result c.is_sized.ensures
    c.first_misfit.ensures.words c.first_misfit.ensures.first
