use Rattle.std.proofs.Common.{ap, length, arith, List, sym}
use Rattle.board.specs.Boards.{Target}
use Rattle.facts.specs.domain.Rows.{row_view}
use Rattle.facts.specs.well_formed.Starts.{StartsAt}
use Rattle.facts.proofs.Belongs.EachTargets.{before_none, before_more, before_all, before_at}
use Rattle.facts.proofs.Belongs.EachTargets.{each_at, here, not_met}
use Rattle.facts.proofs.well_formed.starting.unheld_target.Goals as goal

pub loop-index-init : goal.loop-index-init
loop-index-init c = before_none c.args.board.now (StartsAt (row_view c.args.row.now))

pub returns-then-not-starts_at : goal.returns-then-not-starts_at
returns-then-not-starts_at c =
    let b = c.args.board.now in
    let there = here b c.targets-target-items.result.now c.loop-index.index c.target-item.result
    c.targets-target-items.ensures.targets c.loop-index-test.true c.target-item.is in (
      (λ each. not_met _ _ c.starts_at.ensures c.if-not-starts_at.true
          (each c.target-item.result (sym there))),
      before_at b (StartsAt (row_view c.args.row.now)) c.loop-index.index c.loop-index.invariant,
    )

pub loop-index-preserved : goal.loop-index-preserved
loop-index-preserved c =
    before_more c.args.board.now (StartsAt (row_view c.args.row.now)) c.loop-index.index
    c.target-item.result c.loop-index.invariant
    (here c.args.board.now c.targets-target-items.result.now c.loop-index.index
    c.target-item.result c.targets-target-items.ensures.targets c.loop-index-test.true
    c.target-item.is)
    (c.starts_at.ensures.0 c.if-not-starts_at.false)

pub returns : goal.returns
returns c =
    let b = c.args.board.now in
    let Held = StartsAt (row_view c.args.row.now) in
    let stop = c.loop-index-test.false in
    let count = ap (λ (ts : List Target). length ts) c.targets-target-items.ensures.targets in
    each_at b Held
    (before_all b Held c.loop-index.index c.loop-index.invariant (omega (arith, stop, count)))
