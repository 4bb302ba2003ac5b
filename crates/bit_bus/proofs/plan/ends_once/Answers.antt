use Rattle.bit_bus.proofs.Plans.{once_none, once_inside, once_not}
use Rattle.bit_bus.proofs.plan.ends_once.Goals as goal

pub returns-in_default : goal.returns-in_default
returns-in_default c = once_none c.args.slots.now c.in_default.ensures.cases

pub returns-then-is_end : goal.returns-then-is_end
returns-then-is_end c =
    once_inside c.args.slots.now c.in-Some.inside.now c.in-Some.last.now c.are_inside.result
    c.in-Some.ensures.cases.0 c.if-is_end.ensures c.are_inside.ensures

pub returns-else-is_end : goal.returns-else-is_end
returns-else-is_end c =
    once_not c.args.slots.now c.in-Some.inside.now c.in-Some.last.now c.is_end.result
    c.in-Some.ensures.cases.0 c.if-is_end.false c.is_end.ensures
