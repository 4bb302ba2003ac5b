use Rattle.targets.proofs.Addresses.{targets_are_found}
use Rattle.targets.proofs.law.targets_are_found.Goals as goal

pub returns : goal.returns
returns c = targets_are_found
