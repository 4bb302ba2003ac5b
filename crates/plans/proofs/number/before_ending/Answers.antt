use Rattle.plans.proofs.Endings.{cut_ending}
use Rattle.plans.proofs.number.before_ending.Goals as goal

pub returns : goal.returns
returns c =
    cut_ending c.args.ending.now c.args.word.now c.strip_suffix.result c.strip_suffix.ensures.cases
