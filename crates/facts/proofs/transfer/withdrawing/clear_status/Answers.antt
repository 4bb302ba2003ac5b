use Rattle.std.proofs.Common.{rules, ◌∙◌, arith}
use Rattle.facts.specs.transfer.Edges.{forget, is_status_of}
use Rattle.facts.specs.duties.Touching.{touched_in}
use Rattle.facts.proofs.Coded.Mapping.{mapped_none, mapped_more, mapped_all}
use Rattle.facts.proofs.transfer.withdrawing.clear_status.Goals as goal

pub loop-index-init : goal.loop-index-init
loop-index-init c = (
  mapped_none (forget (is_status_of (touched_in c.args.board.now c.args.pages c.args.target)))
      c.args.sources,
  search rules,
)

pub loop-index-preserved : goal.loop-index-preserved
loop-index-preserved c =
    let lt = c.loop-index-test.true in
    let long = c.loop-index.invariant.1 in (
      mapped_more (forget (is_status_of (touched_in c.args.board.now c.args.pages c.args.target)))
          c.args.sources c.loop-index.sources c.loop-index.index _
          c.without_status.result (omega (arith, lt, long)) c.loop-index.invariant.0
          c.without_status.ensures,
      long,
    )

pub returns : goal.returns
returns c =
    let stop = c.loop-index-test.false in
    let long = c.loop-index.invariant.1 in
    c.loop-index.invariant.0
    ∙ mapped_all (forget (is_status_of (touched_in c.args.board.now c.args.pages c.args.target)))
    c.args.sources c.loop-index.index (omega (arith, stop, long))
