-- The edge along which an instruction leads where no other controller wins over its message.
use Rattle.std.proofs.Common.{◌≡◌, ℕ, ◌≤◌, ◌-◌, List, subst}
use Rattle.board.specs.Boards.{Board}
use Rattle.seq_program.specs.declared.instr.Instr.{Instr}
use Rattle.seq_program.specs.Requests.{else_in}
use Rattle.simulator.specs.ForeignTicks.{foreign_ticks}
use Rattle.simulator.specs.Machines.{Machine, Entry}
use Rattle.facts.specs.domain.Rows.{Row, Admits, rank, left_of}
use Rattle.facts.specs.transfer.Edges.{Edge, edges, lost_edges}
use Rattle.facts.specs.transfer.Ticks.{own_ticks}
use Rattle.facts.specs.transfer.TimedEdges.{timed}
use Rattle.facts.specs.Steps.{Leads}
use Rattle.facts.proofs.Shared.EdgeLists.{HasEdge, timed_has, timed_front}

pub record LeadsOwn (b : Board) (place : ℕ) (i : Instr) (row : Row) (m next : Machine)
    (history : List Entry) : Type 0 where
  pub by : Edge
  pub there : HasEdge (edges b place i row) by
  pub to : next.place ≡ by.to
  pub admits : Admits b by.row next history
  pub falls : (left : ℕ) → rank by.row next.counters left ≤ rank row m.counters left

pub own_leads : (b : Board) (place : ℕ) (i : Instr) (row : Row) (m next : Machine)
    (history : List Entry) (ticks : ℕ) → LeadsOwn b place i row m next history
    → next.bus.lost ≡ m.bus.lost → ticks ≤ own_ticks b i
    → Leads b place i row m next history ticks
own_leads b place i row m next history ticks k kept few = record {
  by = k.by;
  most = own_ticks b i;
  there = timed_front (timed (own_ticks b i) (edges b place i row))
      (timed (foreign_ticks b) (lost_edges b (else_in i) row)) k.by (own_ticks b i)
      (timed_has (own_ticks b i) (edges b place i row) k.by k.there);
  within = few;
  to = k.to;
  admits = k.admits;
  falls =
      let P : ℕ → Type 0 = λ lost. rank k.by.row next.counters (left_of b next.bus)
      ≤ rank row m.counters (b.contentions - lost) in
      subst P kept (k.falls (left_of b next.bus));
}
