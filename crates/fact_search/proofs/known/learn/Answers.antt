use Rattle.std.proofs.Common.{◌≡◌, refl, sym, subst, List, true}
use Rattle.std.specs.Prelude.{Option, Some, None, nat_le, slice_set}
use Rattle.facts.specs.declared.domain.row.Row.{Row as CodeRow}
use Rattle.facts.specs.transfer.Edges.{edge}
use Rattle.facts.specs.domain.Rows.{row_view}
use Rattle.table_check.specs.Tables.{rows_view, row_of}
use Rattle.fact_search.specs.Searching.{IsLearnt}
use Rattle.fact_search.proofs.Shared.Covers.{row_shaped, row_sized}
use Rattle.fact_search.proofs.Steps.Learning.{taken, grows, known}
use Rattle.fact_search.proofs.known.learn.Goals as goal
use Rattle.fact_search.proofs.known.learn.Goals.{in-None, in-Some+else-covers+in_ok-row-in-Some}

pub grown-requires-clause-old : goal.grown-requires-clause-old
grown-requires-clause-old c =
    let P : List (Option CodeRow) → Type 0 = λ items. Some (row_view c.in-Some.old.now)
    ≡ row_of (rows_view items) c.args.to in
    c.requires.rows c.args.to (row_view c.in-Some.old.now)
    (sym (subst P c.deref.ensures.value c.in-Some.ensures))

pub returns-then-covers : goal.returns-then-covers
returns-then-covers c =
    let b = c.args.board.now in
    let old = row_view c.in-Some.old.now in
    let row = row_view c.args.row in
    let P : List (Option CodeRow) → Type 0 = λ items. Some old
    ≡ row_of (rows_view items) c.args.to in
    let there = subst P c.deref.ensures.value c.in-Some.ensures in
    let shaped = c.requires.rows c.args.to old (sym there) in
    known b c.args.place c.args.to (rows_view c.args.rows.now.items) old row c.requires.rows
    there
    ((c.covers.ensures.rows b (row_sized b c.in-Some.old.now (row_shaped b old shaped))
    (row_sized b c.args.row c.requires.shaped)).0 c.if-covers.true)

pub returns : goal.returns
returns c =
    let b = c.args.board.now in
    let rows = c.args.rows.now.items in
    let to = c.args.to in
    let place = c.args.place in
    let row = c.args.row in
    let Learnt : CodeRow → Type 0 = λ r. IsLearnt b place (rows_view rows)
    (rows_view (slice_set rows to (Some r))) (edge to (row_view row)) true in
    elim c.match-row_at.branch [
      | in-None w ↦
          let P : List (Option CodeRow) → Type 0 = λ items. None ≡ row_of (rows_view items) to in
          subst Learnt (sym w.row2-is)
          (taken b place to rows w.without_ticks-row.result row c.requires.rows
          c.requires.inside (subst P c.deref.ensures.value w.in-None.ensures)
          w.without_ticks-row.ensures.row w.without_ticks-row.ensures.same)
      | in-Some+else-covers+in_ok-row-in-Some w ↦
          let old = w.in-Some.old.now in
          let P : List (Option CodeRow) → Type 0 = λ items. Some (row_view old)
          ≡ row_of (rows_view items) to in
          subst Learnt (sym w.row2-is)
          (grows b place to rows old w.in_ok-row-in-Some.row row (nat_le to place)
          c.requires.rows c.requires.inside
          (subst P c.deref.ensures.value w.in-Some.ensures) refl w.in_ok-row-in-Some.ensures)
    ]
