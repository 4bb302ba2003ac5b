use Rattle.drafts.proofs.Placing.{nothing_placed, grown, fewer_left}
use Rattle.drafts.proofs.Placing.{first_found}
use Rattle.drafts.proofs.order.order_of.Goals as goal

pub loop-rail-init : goal.loop-rail-init
loop-rail-init c = nothing_placed _ _ _ c.new-order.ensures.items

pub loop-rail-preserved : goal.loop-rail-preserved
loop-rail-preserved c =
    grown _ _ _ _ _ _ c.deref.ensures.value c.in_ok-push.ensures.items c.loop-rail.invariant
    c.in-Some.ensures.next

pub loop-rail-smaller : goal.loop-rail-smaller
loop-rail-smaller c =
    let growing =
    grown _ _ _ _ _ _ c.deref.ensures.value c.in_ok-push.ensures.items c.loop-rail.invariant
    c.in-Some.ensures.next in
    fewer_left _ _ _ _ c.in_ok-push.ensures.items growing.rails

pub returns-in-Some-first_unplaced-clause-fault : goal.returns-in-Some-first_unplaced-clause-fault
returns-in-Some-first_unplaced-clause-fault c =
    first_found _ _ _ _ _ _ c.deref.ensures.value c.deref-2.ensures.value
    c.loop-rail.invariant.each_is_next c.in_default.ensures.none
    c.in-Some-first_unplaced.ensures.first
