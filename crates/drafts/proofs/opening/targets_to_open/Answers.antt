use Rattle.std.proofs.Common.{◌<◌, length, sym, ◌∙◌}
use Rattle.drafts.specs.Opening.{has_to_open}
use Rattle.drafts.proofs.Passing.{passed, failed}
use Rattle.drafts.proofs.opening.targets_to_open.Goals.{then-has_to_open+in_ok-push}
use Rattle.drafts.proofs.opening.targets_to_open.Goals.{else-has_to_open}
use Rattle.drafts.proofs.opening.targets_to_open.Goals as goal

pub loop-target-preserved : goal.loop-target-preserved
loop-target-preserved c =
    let test = has_to_open c.args.board.now c.args.plan.now.wishes.items in
    let below : c.loop-target.target < length c.args.board.now.targets =
    rw c.targets-target-end.ensures.targets at c.loop-target-test.true in
    elim c.if-has_to_open.branch [
      | then-has_to_open+in_ok-push w ↦
          rw w.targets-is
          (passed test _ _ _ _ _ below (sym c.has_to_open.ensures ∙ w.if-has_to_open.true)
          w.in_ok-push.ensures.items c.loop-target.invariant)
      | else-has_to_open w ↦
          rw w.targets-is
          (failed test _ _ _ _ below
          (sym c.has_to_open.ensures ∙ w.if-has_to_open.false) c.loop-target.invariant)
    ]
