use Rattle.std.proofs.Common.{◌∙◌}
use Rattle.seq_program.proofs.LabelEntries.{lookup-has_label}
use Rattle.seq_program.proofs.labels.has_label.Goals as goal

pub returns : goal.returns
returns c = c.contains_key.ensures ∙ lookup-has_label c.args.name.now c.args.labels.now.entries
