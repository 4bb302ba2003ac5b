use Rattle.std.proofs.Common.{arith}
use Rattle.bundles.proofs.ListedBytes.{one_more}
use Rattle.bundles.proofs.answers.bytes_in.Goals as goal

pub loop-part-preserved : goal.loop-part-preserved
loop-part-preserved c =
    rw (c.in_ok-push.ensures.items)
    (one_more c.loop-part.bytes.items c.in-Some.byte c.args.parts.now c.loop-part.part-index _ _
    (omega (arith, c.loop-part-test.true)) c.in-Some.ensures.value c.loop-part.invariant)
