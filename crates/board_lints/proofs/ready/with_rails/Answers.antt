use Rattle.board_lints.proofs.Circles.{next_among, within_all}
use Rattle.board_lints.proofs.ready.with_rails.Goals as goal

pub loop-other-preserved : goal.loop-other-preserved
loop-other-preserved c =
    let others = c.args.others.now in
    let i = c.loop-other.other-index in
    let one = c.in_ok-more.ensures in record {
      rails = one.rails;
      kept = λ d t. one.kept d (c.loop-other.invariant.kept d t);
      has =
          next_among others c.loop-other.more.items c.in_ok-more.more.items i
          c.loop-other-test.true c.loop-other.invariant.has one.kept
          (one.has (within_all others i _ c.requires.others c.loop-other-test.true));
    }
