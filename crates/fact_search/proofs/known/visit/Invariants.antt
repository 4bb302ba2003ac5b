use Rattle.std.specs.Prelude.{map}
use Rattle.facts.specs.transfer.Ways.{timed_view}
use Rattle.table_check.specs.Tables.{rows_view}
use Rattle.fact_search.specs.Leading.{IsLed, leads_view}
use Rattle.fact_search.specs.Searching.{AreEdgesAt}
use Rattle.fact_search.proofs.Steps.Visiting.{IsVisiting, edges_view}
use Rattle.fact_search.proofs.known.visit.Given as goal

abbrev pub invariant-loop-to : goal.invariant-loop-to
invariant-loop-to l = record {
  led : AreEdgesAt l.board l.program (rows_view l.fn.known.rows.items) l.place
      (map timed_view l.initial.to-iterator.rest.items);
  visiting : IsVisiting l.board l.program l.place (edges_view l.initial.to-iterator.rest.items)
      (rows_view l.fn.known.rows.items) (rows_view l.known.rows.items) l.known.changed.items
      (edges_view l.to-iterator.rest.items) l.next;
  leads : IsLed l.board l.program (rows_view l.known.rows.items) l.known.changed.items
      (leads_view l.known.leads.items);
}
