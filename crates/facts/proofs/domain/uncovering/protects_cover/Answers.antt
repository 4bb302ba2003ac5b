use Rattle.facts.proofs.Coded.Uncovering.{sets_same}
use Rattle.facts.proofs.domain.uncovering.protects_cover.Goals as goal

pub returns : goal.returns
returns c =
    sets_same _ _ _ _ c.covers.result c.protects_at.ensures c.protects_at-2.ensures
    c.covers.ensures.exact
