use Rattle.facts.proofs.Coded.Words.{covers_iff}
use Rattle.facts.proofs.domain.mask.has_all.Goals as goal

pub returns : goal.returns
returns c = covers_iff c.args.bits c.args.other
