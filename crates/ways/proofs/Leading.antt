-- Edges of a step's instruction.
use Rattle.std.proofs.Common.{◌≡◌, ◌∙◌, ℕ, List, Option, Some, None, ap, length, map, subst, sym}
use Rattle.std.specs.Prelude.{IfSome, option_map, slice_get}
use Rattle.std.proofs.lemmas.List.{length-map}
use Rattle.std.proofs.lemmas.Option.{slice_get-map}
use Rattle.board.specs.Boards.{Board}
use Rattle.seq_program.specs.declared.instr.Instr.{Instr}
use Rattle.facts.specs.declared.domain.row.Row.{Row}
use Rattle.facts.specs.duties.Duties.{IsFirstFailing, duties}
use Rattle.facts.specs.transfer.TimedEdges.{timed_edges}
use Rattle.facts.specs.transfer.Ways.{timed_view}
use Rattle.ways.specs.declared.step.Step.{Step}
use Rattle.ways.specs.declared.trails.Trail.{Trail}
use Rattle.ways.specs.Trails.{AreEdgesOf, IsAlong}
use Rattle.ways.specs.Ways.{LeadsTo, row_at}

pub edges_are : (b : Board) (p : List Instr) (s : Step) (instr : Instr) (es : List (ℕ × Row × ℕ))
    → slice_get p s.place ≡ Some instr → IsFirstFailing b (row_at s) instr duties None
    → IfSome (slice_get p s.place)
    (λ i. map timed_view es ≡ timed_edges b s.place i (row_at s))
    → AreEdgesOf b p s es
edges_are b p s instr es here keeps leads = record {
  instr = instr;
  here = here;
  keeps = keeps;
  are = subst (λ (i : Option Instr).
      IfSome i (λ i. map timed_view es ≡ timed_edges b s.place i (row_at s))) here leads;
}

-- a trail along one of them
pub leads_along : (b : Board) (p : List Instr) (s : Step) (before : Option ℕ)
    (es : List (ℕ × Row × ℕ)) (t : Trail) → AreEdgesOf b p s es → IsAlong before es t
    → LeadsTo b p s t.step
leads_along b p s before es t edges along = record {
  instr = edges.instr;
  here = edges.here;
  keeps = edges.keeps;
  count = ap length (sym edges.are) ∙ length-map es timed_view ∙ along.count;
  ticks = along.ticks;
  leads = ap (λ xs. slice_get xs t.step.edge) (sym edges.are)
      ∙ slice_get-map timed_view es t.step.edge ∙ ap (option_map timed_view) along.edge;
}
