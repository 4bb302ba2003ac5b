use Rattle.facts.proofs.Belongs.Fitting.{none_is}
use Rattle.facts.proofs.domain.row.Row.holds_starts.Goals as goal

pub returns : goal.returns
returns c = none_is c.unheld.result c.is_none.result c.is_none.ensures _ c.unheld.ensures.row
