use Rattle.std.proofs.Common.{ℕ, List, All, subst}
use Rattle.table_check.specs.Tables.{table_view}
use Rattle.facts.specs.domain.Sets.{rails_in}
use Rattle.program_lints.specs.declared.flow.Flow.{Flow}
use Rattle.program_lints.specs.Changes.{IsOffAfter, HasVoltageAfter}
use Rattle.program_lints.specs.Flows.{AreFlows, IsKept}
use Rattle.program_lints.specs.PowerStates.{sets_in}
use Rattle.program_lints.proofs.Along.{kept_are_closed, none_at_start}
use Rattle.program_lints.proofs.power.power_states.Goals as goal

pub returns-clause-on : goal.returns-clause-on
returns-clause-on c = λ table.
    let b = c.args.board.now in
    let p = c.args.program.now in
    let t = table_view c.args.table.now in
    let sets = sets_in c.in_ok-off.off.items in
    let F : List (ℕ × ℕ) → Type 0 = λ xs.
    AreFlows IsOffAfter b p t xs c.in_ok-off_flows.off_flows.items in
    let K : List Flow → Type 0 = λ fs. All (IsKept sets) fs in
    c.closed_sets_are_sure.ensures.off b p t sets c.board_is_valid.ensures
    c.program_is_valid.ensures table
    (kept_are_closed IsOffAfter b p t c.in_ok-arrows.arrows.items
    c.in_ok-off_flows.off_flows.items sets c.tables_are_judged_by_place.ensures.whole table
    c.in_ok-arrows.ensures
    (subst F c.deref.ensures.value c.in_ok-off_flows.ensures)
    (subst K c.deref-3.ensures.value c.in_ok-off.ensures.kept))

pub returns-clause-voltages : goal.returns-clause-voltages
returns-clause-voltages c = λ table.
    let b = c.args.board.now in
    let p = c.args.program.now in
    let t = table_view c.args.table.now in
    let sets = sets_in c.in_ok-voltages.voltages.items in
    let F : List (ℕ × ℕ) → Type 0 = λ xs.
    AreFlows HasVoltageAfter b p t xs c.in_ok-voltage_flows.voltage_flows.items in
    let K : List Flow → Type 0 = λ fs. All (IsKept sets) fs in
    c.closed_sets_are_sure.ensures.voltages b p t sets c.board_is_valid.ensures
    c.program_is_valid.ensures table
    (kept_are_closed HasVoltageAfter b p t c.in_ok-arrows.arrows.items
    c.in_ok-voltage_flows.voltage_flows.items sets c.tables_are_judged_by_place.ensures.whole
    table c.in_ok-arrows.ensures
    (subst F c.deref-2.ensures.value c.in_ok-voltage_flows.ensures)
    (subst K c.deref-4.ensures.value c.in_ok-voltages.ensures.kept))
    (none_at_start (rails_in c.empty.result) sets c.empty.ensures c.in_ok-voltages.ensures.starts)
