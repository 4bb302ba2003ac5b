use Rattle.std.proofs.Common.{◌∙◌, ap}
use Rattle.facts.specs.domain.Sets.{Set, gains}
use Rattle.program_lints.proofs.need_loss.single_rail.Goals as goal

pub returns : goal.returns
returns c = c.with.ensures ∙ ap (λ (s : Set). gains s c.args.rail) c.empty.ensures
