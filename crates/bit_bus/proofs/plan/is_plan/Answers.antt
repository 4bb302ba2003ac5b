use Rattle.std.proofs.Common.{refl}
use Rattle.bit_bus.proofs.Plans.{too_many, plan_short, not_once}
use Rattle.bit_bus.proofs.plan.is_plan.Goals as goal

pub returns-then-slots-gt-MOST_SLOTS : goal.returns-then-slots-gt-MOST_SLOTS
returns-then-slots-gt-MOST_SLOTS c =
    too_many c.args.slots.now c.args.holds.now c.if-slots-gt-MOST_SLOTS.true

pub returns-then-ends_once : goal.returns-then-ends_once
returns-then-ends_once c =
    plan_short c.args.slots.now c.args.holds.now c.min.result c.are_short.result
    c.if-slots-gt-MOST_SLOTS.false (c.if-ends_once.ensures.0 refl) c.min.ensures c.are_short.ensures

pub returns-else-ends_once : goal.returns-else-ends_once
returns-else-ends_once c =
    not_once c.args.slots.now c.args.holds.now c.ends_once.result c.if-ends_once.false
    c.ends_once.ensures.1
