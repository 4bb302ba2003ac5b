use Rattle.std.proofs.Common.{◌∙◌, sym}
use Rattle.seq_program.proofs.LabelEntries.{below-values}
use Rattle.seq_program.proofs.labels.are_below.Goals as goal

pub returns : goal.returns
returns c = c.places_are_below.ensures ∙ sym (below-values c.args.count c.args.labels.now.entries)
