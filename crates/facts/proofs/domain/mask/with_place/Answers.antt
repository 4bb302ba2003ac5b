use Rattle.facts.proofs.Coded.Words.{bit_with, with_small}
use Rattle.facts.proofs.domain.mask.with_place.Goals as goal

pub returns-clause-bits : goal.returns-clause-bits
returns-clause-bits c = bit_with c.args.bits c.args.place c.requires

pub returns-clause-small : goal.returns-clause-small
returns-clause-small c = λ k lt within. with_small c.args.bits c.args.place k lt within c.requires
