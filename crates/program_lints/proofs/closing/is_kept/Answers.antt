use Rattle.std.proofs.Common.{◌∙◌, ap}
use Rattle.facts.specs.domain.Rows.{set_at}
use Rattle.facts.specs.domain.Sets.{Set, rails_in}
use Rattle.program_lints.specs.Flows.{flow_after}
use Rattle.program_lints.specs.PowerStates.{sets_in}
use Rattle.program_lints.proofs.Along.{covers_same}
use Rattle.program_lints.proofs.closing.is_kept.Goals as goal

pub returns : goal.returns
returns c =
    let f = c.args.flow.now in
    let sets = sets_in c.args.sets.now in
    let same = covers_same (rails_in c.after-after.result) (flow_after f (set_at sets f.from))
    (rails_in c.set_at-end.result) (set_at sets f.to)
    (λ d. c.after-after.ensures d ∙ ap (λ (s : Set). flow_after f s d) c.set_at.ensures)
    c.set_at-end.ensures in (
      λ t. same.0 (c.covers.ensures.exact.0 t),
      λ k. c.covers.ensures.exact.1 (same.1 k),
    )
