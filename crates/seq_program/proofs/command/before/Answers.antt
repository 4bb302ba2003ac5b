use Rattle.seq_program.proofs.Endings.{stripped}
use Rattle.seq_program.proofs.command.before.Goals as goal

pub returns : goal.returns
returns c =
    stripped c.args.ending.now c.args.text.now c.strip_suffix.result c.strip_suffix.ensures.cases
