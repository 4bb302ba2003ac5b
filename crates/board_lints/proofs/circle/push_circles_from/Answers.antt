use Rattle.board_lints.proofs.ToldLints.{none_told, one_circle_more, longer, first_longer}
use Rattle.board_lints.proofs.circle.push_circles_from.Goals as goal

pub loop-init : goal.loop-init
loop-init c =
    let first = c.args.lints.now.items in
    let one = c.in_ok-ready.ensures.told in record {
      rails = c.in_ok-ready.ensures.rails;
      all = c.in_ok-ready.ensures.all;
      more = first_longer first _ one.circle one.told;
      told =
          one_circle_more c.args.board.now first first _ c.args.ready.items _
          (none_told c.args.board.now first c.args.ready.items) one;
    }

pub loop-preserved : goal.loop-preserved
loop-preserved c =
    let first = c.args.lints.now.items in
    let one = c.in_ok-ready-2.ensures.told in record {
      rails = c.in_ok-ready-2.ensures.rails;
      all = c.in_ok-ready-2.ensures.all;
      more = longer first c.loop.lints.items _ one.circle c.loop.invariant.more one.told;
      told =
          one_circle_more c.args.board.now first c.loop.lints.items _ c.loop.ready.items _
          c.loop.invariant.told one;
    }
