use Rattle.std.proofs.Common.{◌≡◌, ◌<◌, ◌≤◌, ℕ, false, length}
use Rattle.table_check.specs.Tables.{rows_view}
use Rattle.fact_search.specs.Forward.{IsForward}
use Rattle.fact_search.specs.Leading.{IsLed, leads_view}
use Rattle.fact_search.specs.Searching.{IsSearched, is_changed}
use Rattle.fact_search.proofs.Steps.Ending.{AreUpTo}
use Rattle.fact_search.proofs.searching.search.Given as goal

abbrev pub invariant-loop-visit : goal.invariant-loop-visit
invariant-loop-visit l = record {
  searched : IsSearched l.board l.program (rows_view l.known.rows.items) l.known.changed.items;
  led : IsLed l.board l.program (rows_view l.known.rows.items) l.known.changed.items
      (leads_view l.known.leads.items);
  before : (n : ℕ) → n < l.cursor → is_changed l.known.changed.items n ≡ false;
  inside : l.cursor ≤ length l.program;
  onward : IsForward l.program → l._visit ≤ l.cursor;
  places : length l.visits.items ≡ length l.program;
  few : AreUpTo l._visit l.visits.items;
  most : AreUpTo 4096 l.visits.items;
}
