use Rattle.table_check.specs.Tables.{table_view}
use Rattle.program_lints.specs.Changes.{HasVoltageAfter}
use Rattle.program_lints.proofs.Along.{no_flows, one_flow, all_flows}
use Rattle.program_lints.proofs.flowing.voltage_flows.Goals as goal

pub loop-from-init : goal.loop-from-init
loop-from-init c =
    no_flows HasVoltageAfter c.args.board.now c.args.program.now (table_view c.args.table.now)
    c.args.arrows.now c.new-flows.result.items c.new-flows.ensures.items

pub loop-from-preserved : goal.loop-from-preserved
loop-from-preserved c =
    one_flow HasVoltageAfter c.args.board.now c.args.program.now (table_view c.args.table.now)
    c.args.arrows.now c.loop-from.flows.items c.push.new.self.items c.loop-from.from-index
    c.voltage_flow.result (0, 0) c.loop-from.invariant c.loop-from-test.true
    c.voltage_flow.ensures.flow c.voltage_flow.ensures.along c.in_ok-push.ensures.items

pub returns : goal.returns
returns c =
    all_flows HasVoltageAfter c.args.board.now c.args.program.now (table_view c.args.table.now)
    c.args.arrows.now c.loop-from.flows.items c.loop-from.from-index c.loop-from.invariant
    c.loop-from-test.false
