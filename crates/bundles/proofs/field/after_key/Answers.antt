use Rattle.bundles.proofs.Words.{stripped}
use Rattle.bundles.proofs.field.after_key.Goals as goal

pub returns : goal.returns
returns c =
    stripped c.args.key.now c.args.word.now c.strip_prefix.result c.strip_prefix.ensures.cases
