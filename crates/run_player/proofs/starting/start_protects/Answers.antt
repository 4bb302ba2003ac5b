use Rattle.std.proofs.Common.{◌≡◌, ◌<◌, length, get_or, ap, arith}
use Rattle.std.specs.Prelude.{Contains}
use Rattle.run_player.proofs.Listed.{listed_more}
use Rattle.run_player.proofs.starting.start_protects.Goals as goal

pub loop-target-preserved : goal.loop-target-preserved
loop-target-preserved c =
    let ts = c.args.board.now.targets in
    let i = c.loop-target.target-index in
    let same = c.targets-target-items.ensures.targets in
    let there : i < length c.args.board.now.targets = omega (arith, ap length same) in
    let item : get_or c.args.board.now.targets i c.target-item.result ≡ c.target-item.result = cc in
    let one : Contains c.target-item.result.start_protects c.one_among.result =
    rw c.start_protects.ensures at c.one_among.ensures in
    rw c.in_ok-push.ensures.items
    (listed_more (λ t. t.start_protects) i c.loop-target.protects.items ts c.one_among.result
    c.target-item.result c.loop-target.invariant there item one)
