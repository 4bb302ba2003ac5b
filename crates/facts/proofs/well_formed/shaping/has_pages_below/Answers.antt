use Rattle.facts.proofs.Belongs.Sets.{all_below}
use Rattle.facts.proofs.well_formed.shaping.has_pages_below.Goals as goal

pub returns : goal.returns
returns c =
    all_below c.args.row.now.pages.items c.args.target c.args.pages c.values_of.result
    c.pages_at.result c.covers.result c.values_of.ensures c.pages_at.ensures
    c.covers.ensures.exact
