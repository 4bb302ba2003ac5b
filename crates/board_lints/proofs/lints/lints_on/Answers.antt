use Rattle.board_lints.proofs.ToldLints.{all_lints}
use Rattle.board_lints.proofs.lints.lints_on.Goals as goal

pub returns : goal.returns
returns c =
    all_lints c.args.board.now c.args.program.now c.deref.result.now c.new-lints.result.items
    c.push_unready_targets.new.lints.items c.push_circles.new.lints.items
    c.push_idle_rails.new.lints.items c.push_loose_limits.new.lints.items
    c.push_foreign.new.lints.items
    (rw c.in_ok-messages.ensures at c.deref.ensures.value) c.new-lints.ensures.items
    c.in_ok-push_unready_targets.ensures c.in_ok-push_circles.ensures.told
    c.in_ok-push_circles.ensures.none c.in_ok-push_idle_rails.ensures
    c.in_ok-push_loose_limits.ensures c.in_ok-push_foreign.ensures
