use Rattle.bundles.proofs.WellFormedBundles.{well_formed}
use Rattle.bundles.proofs.ReadBundles.{all_read}
use Rattle.bundles.proofs.law.well_formed_bundles_are_read.Goals as goal

pub returns-clause-read : goal.returns-clause-read
returns-clause-read c = all_read

pub returns-clause-no_others : goal.returns-clause-no_others
returns-clause-no_others c = well_formed
