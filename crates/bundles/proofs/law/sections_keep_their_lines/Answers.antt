use Rattle.bundles.proofs.NumberedSections.{sections_stand, last_ends}
use Rattle.bundles.proofs.law.sections_keep_their_lines.Goals as goal

pub returns-clause-stand : goal.returns-clause-stand
returns-clause-stand c = sections_stand

pub returns-clause-last : goal.returns-clause-last
returns-clause-last c = last_ends
