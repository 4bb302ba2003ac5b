use Rattle.std.proofs.Common.{◌≡◌, List, Option, Some, sym, subst}
use Rattle.facts.specs.declared.domain.row.Row.{Row as CodeRow}
use Rattle.facts.specs.domain.Rows.{row_view}
use Rattle.table_check.specs.Tables.{row_of, rows_view, table_view}
use Rattle.program_lints.specs.Changes.{IsOffAfter}
use Rattle.program_lints.proofs.Along.{flow_of}
use Rattle.program_lints.proofs.flowing.off_flow.Goals as goal

pub returns-clause-flow : goal.returns-clause-flow
returns-clause-flow c =
    let There : List (Option CodeRow) → Type 0 = λ rows.
    row_of (rows_view rows) c.args.from ≡ Some (row_view c.in-Some.row.now) in
    flow_of IsOffAfter c.args.board.now c.args.program.now (table_view c.args.table.now)
    c.off_along.result c.args.from c.args.to c.in-Some-at.instr.now (row_view c.in-Some.row.now)
    c.off_along.ensures.along (sym c.in-Some-at.ensures)
    (subst There c.deref.ensures.value (sym c.in-Some.ensures)) c.off_along.ensures.flow
