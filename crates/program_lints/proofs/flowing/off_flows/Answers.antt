use Rattle.table_check.specs.Tables.{table_view}
use Rattle.program_lints.specs.Changes.{IsOffAfter}
use Rattle.program_lints.proofs.Along.{no_flows, one_flow, all_flows}
use Rattle.program_lints.proofs.flowing.off_flows.Goals as goal

pub loop-from-init : goal.loop-from-init
loop-from-init c =
    no_flows IsOffAfter c.args.board.now c.args.program.now (table_view c.args.table.now)
    c.args.arrows.now c.new-flows.result.items c.new-flows.ensures.items

pub loop-from-preserved : goal.loop-from-preserved
loop-from-preserved c =
    one_flow IsOffAfter c.args.board.now c.args.program.now (table_view c.args.table.now)
    c.args.arrows.now c.loop-from.flows.items c.push.new.self.items c.loop-from.from-index
    c.off_flow.result (0, 0) c.loop-from.invariant c.loop-from-test.true
    c.off_flow.ensures.flow c.off_flow.ensures.along c.in_ok-push.ensures.items

pub returns : goal.returns
returns c =
    all_flows IsOffAfter c.args.board.now c.args.program.now (table_view c.args.table.now)
    c.args.arrows.now c.loop-from.flows.items c.loop-from.from-index c.loop-from.invariant
    c.loop-from-test.false
