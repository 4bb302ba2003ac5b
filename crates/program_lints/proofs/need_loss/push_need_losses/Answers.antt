use Rattle.std.proofs.Common.{◌++◌, ◌<◌, length, ap, arith}
use Rattle.std.specs.Prelude.{flat_map}
use Rattle.std.specs.List.{enumerate_from}
use Rattle.facts.specs.domain.Rows.{row_view}
use Rattle.facts.specs.domain.Sets.{rails_in}
use Rattle.program_lints.specs.Lints.{need_loss}
use Rattle.program_lints.proofs.Leaning.{one_more_lint}
use Rattle.program_lints.proofs.need_loss.push_need_losses.Goals as goal

pub loop-need-preserved : goal.loop-need-preserved
loop-need-preserved c =
    let f = need_loss c.args.board.now (row_view c.args.row.now) c.args.instr.now
    (rails_in c.args.on) c.args.place in
    let below = c.loop-need-test.true in
    let same = ap length c.rails-rail-items.ensures.rails in
    let lt : c.loop-need.need < length c.args.board.now.rails = omega (arith, below, same) in
    one_more_lint f c.args.board.now.rails c.loop-need.need c.loop-need.lints.items
    c.push_need_loss.new.lints.items
    (c.args.lints.now.items ++ flat_map f (enumerate_from 0 c.args.board.now.rails)) lt
    c.in_ok-push_need_loss.ensures c.loop-need.invariant
