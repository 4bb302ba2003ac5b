use Rattle.facts.proofs.Coded.Uncovering.{sets_same}
use Rattle.facts.proofs.domain.uncovering.pages_cover.Goals as goal

pub returns : goal.returns
returns c =
    sets_same _ _ _ _ c.covers.result c.pages_at.ensures c.pages_at-2.ensures c.covers.ensures.exact
