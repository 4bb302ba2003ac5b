use Rattle.facts.proofs.Belongs.Starts.{unheld_tells}
use Rattle.facts.proofs.domain.row.Row.unheld.Goals as goal

pub returns-clause-row : goal.returns-clause-row
returns-clause-row c =
    unheld_tells c.args.board.now c.args.self.now c.first_unheld.result c.is_sized.ensures
    c.first_unheld.ensures
