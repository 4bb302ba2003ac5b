use Rattle.facts.proofs.Belongs.Fitting.{none_is}
use Rattle.facts.proofs.domain.row.Row.is_of.Goals as goal

pub returns : goal.returns
returns c =
    none_is c.misfit.result c.is_none.result c.is_none.ensures _ c.misfit.ensures.row
