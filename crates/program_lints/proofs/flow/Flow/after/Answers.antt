use Rattle.std.proofs.Common.{◌≡◌, ap, sym}
use Rattle.facts.specs.domain.Sets.{Set, rails_in}
use Rattle.program_lints.specs.Flows.{flow_after}
use Rattle.program_lints.proofs.Gained.{nothing_told, one_more, all_told, no_rail, none_after}
use Rattle.program_lints.proofs.flow.Flow.after.Goals as goal

pub loop-rail-init : goal.loop-rail-init
loop-rail-init c =
    nothing_told (λ d x. x ≡ flow_after c.args.self.now (rails_in c.args.before) d)
    (rails_in c.empty-after.result) (λ d. ap (λ (s : Set). s d) c.empty-after.ensures)

pub loop-rail-preserved : goal.loop-rail-preserved
loop-rail-preserved c =
    one_more (λ d x. x ≡ flow_after c.args.self.now (rails_in c.args.before) d)
    (rails_in c.loop-rail.after) (rails_in c.with_rail-after.result) c.loop-rail.rail
    c.is_sure-is_in.result c.loop-rail.invariant c.with_rail-after.ensures c.is_sure-is_in.ensures

pub returns : goal.returns
returns c =
    all_told (λ d x. x ≡ flow_after c.args.self.now (rails_in c.args.before) d)
    c.loop-rail.after c.loop-rail.rail c.loop-rail-test.false c.loop-rail.invariant
    (λ d le. sym (none_after (rails_in c.args.before d) (rails_in c.args.self.now.gains d)
    (rails_in c.args.self.now.loses d) (no_rail c.args.before d le)
    (no_rail c.args.self.now.gains d le)))
