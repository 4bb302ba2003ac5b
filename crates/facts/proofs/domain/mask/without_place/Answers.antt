use Rattle.facts.proofs.Coded.Words.{bit_without}
use Rattle.facts.proofs.domain.mask.without_place.Goals as goal

pub returns-clause-bits : goal.returns-clause-bits
returns-clause-bits c = bit_without c.args.bits c.args.place c.ranges.bits.fits c.requires
