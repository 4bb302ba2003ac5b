use Rattle.facts.proofs.Coded.Uncovering.{nothing_tells, unalike}
use Rattle.facts.proofs.domain.row.Row.parts_cover.Goals as goal

pub returns-then-are_alike : goal.returns-then-are_alike
returns-then-are_alike c =
    nothing_tells c.args.self.now c.args.other.now c.uncovered.result c.is_none.result
    c.is_sized.ensures c.is_sized-2.ensures c.uncovered.ensures.first c.is_none.ensures
    (c.are_alike.ensures.0 c.if-are_alike.true)

pub returns-else-are_alike : goal.returns-else-are_alike
returns-else-are_alike c =
    unalike c.args.self.now c.args.other.now c.are_alike.result c.are_alike.ensures
    c.if-are_alike.false
