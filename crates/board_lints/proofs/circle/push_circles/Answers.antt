use Rattle.board_lints.proofs.Circles.{no_rails, good_from_none, some_stuck, none_stuck}
use Rattle.board_lints.proofs.circle.push_circles.Goals as goal

pub ready_after-requires : goal.ready_after-requires
ready_after-requires c = no_rails c.args.board.now c.new.result.items c.new.ensures.items

pub returns-in-None-clause-none : goal.returns-in-None-clause-none
returns-in-None-clause-none c =
    let each = rw c.deref.ensures.value at c.in-None.ensures in
    none_stuck c.args.board.now c.in_ok-ready.ready.items _
    (good_from_none c.args.board.now c.new.result.items c.in_ok-ready.ready.items
    c.new.ensures.items c.in_ok-ready.ensures.good) each

pub returns-in_ok-push_circles_from-in-Some-clause-none :
    goal.returns-in_ok-push_circles_from-in-Some-clause-none
returns-in_ok-push_circles_from-in-Some-clause-none c =
    let found = rw c.deref.ensures.value at c.in-Some.ensures in
    some_stuck c.args.board.now c.in_ok-ready.ready.items c.in-Some.stuck _ _
    c.in_ok-ready.ensures.all found.0 found.1 c.in_ok-push_circles_from-in-Some.ensures.some
