use Rattle.table_check.specs.Tables.{table_view}
use Rattle.program_lints.specs.Changes.{HasVoltageAfter}
use Rattle.program_lints.proofs.Along.{FlowsSoFar}
use Rattle.program_lints.proofs.flowing.voltage_flows.Given as goal

abbrev pub invariant-loop-from : goal.invariant-loop-from
invariant-loop-from l =
    FlowsSoFar HasVoltageAfter l.board l.program (table_view l.table) l.arrows l.flows.items
    l.from-index
