use Rattle.std.proofs.Common.{lit<}
use Rattle.bundles.proofs.Words.{cut}
use Rattle.bundles.proofs.field.cut_at_colon.Goals as goal

pub returns : goal.returns
returns c = cut 58 c.args.text.now c.split_once.result c.split_once.ensures.cases (lit< tt)
