use Rattle.facts.proofs.Belongs.Sets.{all_values}
use Rattle.facts.proofs.domain.page_set.PageSet.values_of.Goals as goal

pub returns : goal.returns
returns c =
    all_values c.args.pages c.with.result c.first.result c.min.result c.with.ensures
    c.first.ensures c.min.ensures
