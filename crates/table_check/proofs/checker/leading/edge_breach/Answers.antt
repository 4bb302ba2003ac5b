use Rattle.std.proofs.Common.{refl, sym}
use Rattle.facts.specs.transfer.Ways.{timed_view}
use Rattle.facts.specs.domain.Rows.{row_view}
use Rattle.table_check.specs.Tables.{rows_view}
use Rattle.table_check.proofs.Broken.{row_sized, shaped_sized, uncovered}
use Rattle.table_check.proofs.Evidence.{paid_or_not, unpaid_breaks}
use Rattle.table_check.proofs.Places.{none_some}
use Rattle.table_check.proofs.checker.leading.edge_breach.Goals as goal

pub returns-in-Some-uncovered-clause-first : goal.returns-in-Some-uncovered-clause-first
returns-in-Some-uncovered-clause-first c = λ p place.
    let b = c.args.board.now in
    let next = row_view c.in-Some.next.now in
    let e = timed_view c.args.edge.now in
    let is_row = c.requires.rows c.args.edge.now.0 next (sym c.in-Some.ensures) in
    let same = c.in-Some-uncovered.ensures.rows b (row_sized b c.in-Some.next.now is_row)
    (shaped_sized b c.args.edge.now.1 c.requires.shaped) in
    uncovered b p (rows_view c.args.rows.now) place e.1 e.0 next c.in-Some.ensures
    (λ k. none_some _ (sym (same.1 k)))

pub returns-in-Some-uncovered-clause-blame : goal.returns-in-Some-uncovered-clause-blame
returns-in-Some-uncovered-clause-blame c = (
  refl,
  refl,
  (row_view c.in-Some.next.now, sym c.in-Some.ensures, c.in-Some-uncovered.ensures.first),
)

pub returns-clause-first : goal.returns-clause-first
returns-clause-first c = λ p place.
    let b = c.args.board.now in
    let next = row_view c.in-Some.next.now in
    let is_row = c.requires.rows c.args.edge.now.0 next (sym c.in-Some.ensures) in
    let same = c.in_default-uncovered.ensures.rows b (row_sized b c.in-Some.next.now is_row)
    (shaped_sized b c.args.edge.now.1 c.requires.shaped) in
    paid_or_not b p (rows_view c.args.rows.now) place next c.args.index (timed_view c.args.edge.now)
    c.unpaid.result c.in-Some.ensures (same.0 refl) c.unpaid.ensures

pub returns-clause-blame : goal.returns-clause-blame
returns-clause-blame c =
    unpaid_breaks c.args.board.now (rows_view c.args.rows.now) (row_view c.in-Some.next.now)
    c.args.index (timed_view c.args.edge.now) c.unpaid.result c.in-Some.ensures c.unpaid.ensures
