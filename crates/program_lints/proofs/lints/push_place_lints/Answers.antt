use Rattle.std.proofs.Common.{◌≡◌, List, Option, Some, subst}
use Rattle.std.proofs.lemmas.Result.{on_ok_weaker}
use Rattle.facts.specs.declared.domain.row.Row.{Row as CodeRow}
use Rattle.facts.specs.domain.Rows.{row_view}
use Rattle.facts.specs.domain.Sets.{rails_in}
use Rattle.table_check.specs.Tables.{row_of, rows_view, table_view}
use Rattle.std.specs.Prelude.{slice_get}
use Rattle.program_lints.proofs.Pushed.{of_place}
use Rattle.program_lints.proofs.lints.push_place_lints.Goals as goal

pub returns : goal.returns
returns c =
    let There : List (Option CodeRow) → Type 0 = λ rows.
    Some (row_view c.in-Some-row_at.row.now) ≡ row_of (rows_view rows) c.args.place in
    on_ok_weaker c.push_table_lints.result
    (of_place c.args.board.now c.args.program.now (table_view c.args.table.now) c.args.states.now
    c.args.place c.in-Some.instr.now (row_view c.in-Some-row_at.row.now)
    (slice_get c.args.program.now c.args.place) (row_of (table_view c.args.table.now) c.args.place)
    c.args.lints.now.items c.push_on_at_fail.new.lints.items c.push_before_voltages.new.lints.items
    c.push_need_losses.new.lints.items c.push_table_lints.new.lints.items
    (rails_in c.may_be_on-on.result) (rails_in c.has_voltage.result) c.in-Some.ensures
    (subst There c.deref.ensures.value c.in-Some-row_at.ensures) c.may_be_on-on.ensures
    c.has_voltage.ensures c.in_ok-push_on_at_fail.ensures c.in_ok-push_before_voltages.ensures
    c.in_ok-push_need_losses.ensures)
    c.push_table_lints.ensures
