use Rattle.facts.proofs.Coded.Words.{bit_lowest}
use Rattle.facts.proofs.domain.mask.lowest.Goals as goal

pub returns-clause-bits : goal.returns-clause-bits
returns-clause-bits c = bit_lowest c.args.places c.requires
