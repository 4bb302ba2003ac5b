use Rattle.std.proofs.Common.{arith}
use Rattle.bundles.proofs.ListedHolds.{one_more, none_more}
use Rattle.bundles.proofs.field.listed_holds.Goals as goal

pub loop-part-preserved : goal.loop-part-preserved
loop-part-preserved c =
    let added = rw (c.if-not-branch.false) at c.in_ok-push_named.ensures.added in
    record {
      value = one_more c.loop-part.holds.items c.push_named.new.holds.items c.args.parts.now
          c.loop-part.part-index _ _ (omega (arith, c.loop-part-test.true)) added
          c.loop-part.invariant.value;
      held = c.in_ok-push_named.ensures.held;
    }

pub returns-then-not-branch-clause-value : goal.returns-then-not-branch-clause-value
returns-then-not-branch-clause-value c =
    let added = rw (c.if-not-branch.true) at c.in_ok-push_named.ensures.added in
    none_more c.loop-part.holds.items c.args.parts.now c.loop-part.part-index _ _
    (omega (arith, c.loop-part-test.true)) added c.loop-part.invariant.value
