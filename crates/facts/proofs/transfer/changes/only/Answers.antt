use Rattle.std.proofs.Common.{◌∙◌, ap}
use Rattle.facts.specs.domain.Sets.{Set, gains}
use Rattle.facts.proofs.transfer.changes.only.Goals as goal

pub returns : goal.returns
returns g c =
    c.with.ensures ∙ ap (λ (s : Set). gains s c.args.value) c.empty.ensures
