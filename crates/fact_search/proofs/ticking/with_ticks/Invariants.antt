use Rattle.std.proofs.Common.{◌≡◌, ◌++◌, All, drop, length}
use Rattle.std.specs.Prelude.{IfSome}
use Rattle.table_check.specs.Tables.{rows_view}
use Rattle.fact_search.specs.Ticking.{ticked}
use Rattle.fact_search.proofs.ticking.with_ticks.Given as goal

abbrev pub invariant-loop-row : goal.invariant-loop-row
invariant-loop-row l = record {
  same : rows_view l.out.items ++ ticked (drop (length l.out.items) l.lefts)
      (rows_view l.row-iterator.rest.items)
      ≡ ticked l.lefts (rows_view l.initial.row-iterator.rest.items);
  four : All (λ row. IfSome row (λ r. length r.coeffs ≡ 4)) l.out.items;
}
