use Rattle.facts.proofs.Belongs.Sets.{protect_set}
use Rattle.facts.proofs.well_formed.shaping.has_protect_set.Goals as goal

pub returns : goal.returns
returns c =
    protect_set c.args.row.now.protects.items c.args.index c.has_some_protect.result
    c.has_some_protect.ensures
