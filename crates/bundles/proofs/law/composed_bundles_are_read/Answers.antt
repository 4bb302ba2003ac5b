use Rattle.bundles.proofs.ComposedBundles.{all_composed}
use Rattle.bundles.proofs.law.composed_bundles_are_read.Goals as goal

pub returns : goal.returns
returns c = all_composed
