use Rattle.std.proofs.Common.{◌<◌, length, sym, ◌∙◌}
use Rattle.drafts.specs.Opening.{is_protected}
use Rattle.drafts.proofs.Passing.{passed, failed}
use Rattle.drafts.proofs.opening.targets_to_protect.Goals.{then-is_protected+in_ok-push}
use Rattle.drafts.proofs.opening.targets_to_protect.Goals.{else-is_protected}
use Rattle.drafts.proofs.opening.targets_to_protect.Goals as goal

pub loop-target-preserved : goal.loop-target-preserved
loop-target-preserved c =
    let test = is_protected c.args.plan.now.wishes.items in
    let below : c.loop-target.target < length c.args.board.now.targets =
    rw c.targets-target-end.ensures.targets at c.loop-target-test.true in
    elim c.if-is_protected.branch [
      | then-is_protected+in_ok-push w ↦
          rw w.targets-is
          (passed test _ _ _ _ _ below (sym c.is_protected.ensures ∙ w.if-is_protected.true)
          w.in_ok-push.ensures.items c.loop-target.invariant)
      | else-is_protected w ↦
          rw w.targets-is
          (failed test _ _ _ _ below
          (sym c.is_protected.ensures ∙ w.if-is_protected.false) c.loop-target.invariant)
    ]
