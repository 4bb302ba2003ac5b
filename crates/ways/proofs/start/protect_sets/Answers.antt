use Rattle.std.proofs.Common.{◌+◌, All, subst, sym, take}
use Rattle.std.specs.Prelude.{Contains}
use Rattle.facts.specs.domain.Sets.{is_protect, protects_in}
use Rattle.ways.specs.Starts.{AreStartProtects}
use Rattle.ways.specs.Ways.{IsChosen}
use Rattle.ways.proofs.Choosing.{chosen_of_more, zip_more}
use Rattle.ways.proofs.start.protect_sets.Goals as goal

pub loop-target-preserved : goal.loop-target-preserved
loop-target-preserved c =
    let targets = c.args.targets.now in
    let set = c.in_ok-protect_set.field-0 in
    let within =
    subst (λ values. All (Contains values) c.of_next.result.now) c.start_protects.ensures
    c.of_next.ensures in
    let chosen = chosen_of_more is_protect c.of_next.result.now c.target-item.result.start_protects
    (protects_in set) within c.in_ok-protect_set.ensures in
    let more = zip_more (λ t set. IsChosen is_protect t.start_protects (protects_in set)) targets
    c.loop-target.sets.items c.loop-target.target-index c.target-item.result set
    c.loop-target-test.true c.target-item.is c.loop-target.invariant chosen in
    subst (AreStartProtects (take (c.loop-target.target-index + 1) targets))
    (sym c.in_ok-push.ensures.items) more
