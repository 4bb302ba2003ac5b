-- A row whose parts hold every start holds them.
use Rattle.std.proofs.Common.{◌≡◌, ◌<◌, ◌↔◌, ℕ, zero, suc, List, [], ◌∷◌, length, refl, subst, sym}
use Rattle.std.proofs.Common.{Option, Some, None, arith, replicate}
use Rattle.board.specs.Boards.{Board}
use Rattle.facts.specs.declared.domain.row.Row.{Row as CodeRow}
use Rattle.facts.specs.declared.domain.span.Span.{Span}
use Rattle.facts.specs.declared.well_formed.unheld.Unheld.{Unheld}
use Rattle.facts.specs.declared.well_formed.unheld.Unheld.TheVariants as part
use Rattle.facts.specs.domain.Rows.{InSpan, InSpans, row_view, span_at}
use Rattle.facts.specs.well_formed.Shapes.{IsSizedRow}
use Rattle.facts.specs.well_formed.Starts.{HoldsStarts}
use Rattle.facts.specs.well_formed.Unheld.{FindsUnheld, PartHolds}

zeros_in : (ss : List Span) → ((r : ℕ) → r < length ss → InSpan (span_at ss r) 0)
    → InSpans ss (replicate (length ss) 0)
zeros_in [] h = tt
zeros_in (s ∷ ss) h =
    (h 0 (omega arith), zeros_in ss (λ r lt. h (suc r) (omega (arith, lt))))

zeros_of : (ss : List Span) → InSpans ss (replicate (length ss) 0) → (r : ℕ) → r < length ss
    → InSpan (span_at ss r) 0
zeros_of [] h r lt = absurd (omega (arith, lt))
zeros_of (s ∷ ss) h zero lt = h.0
zeros_of (s ∷ ss) h (suc r) lt = zeros_of ss h.1 r (omega (arith, lt))

pub holding_row : (b : Board) (row : CodeRow) → IsSizedRow row
    → ((e : Unheld) → PartHolds b (row_view row) e) → HoldsStarts b (row_view row)
holding_row b row sized h = record {
  pages = λ i t at. (h (part.Target i) t at).0;
  protects = λ i t at. (h (part.Target i) t at).1;
  good = λ d. h (part.Good d);
  regs = subst (λ n. InSpans row.regs (replicate n 0)) sized.0
      (zeros_in row.regs (λ r. h (part.Register r)));
  counters = subst (λ n. InSpans row.counters (replicate n 0)) sized.2
      (zeros_in row.counters (λ c. h (part.Counter c)));
  sources = λ r. h (part.Source r);
  lost = h part.Lost;
  lost_coeff = h part.LostTicks;
}

pub row_holds : (b : Board) (row : CodeRow) → IsSizedRow row → HoldsStarts b (row_view row)
    → (e : Unheld) → PartHolds b (row_view row) e
row_holds b row sized h (part.Target i) = λ t at. (h.pages i t at, h.protects i t at)
row_holds b row sized h (part.Good d) = h.good d
row_holds b row sized h (part.Register r) =
    zeros_of row.regs (subst (λ n. InSpans row.regs (replicate n 0)) (sym sized.0) h.regs) r
row_holds b row sized h (part.Source r) = h.sources r
row_holds b row sized h (part.Counter c) =
    zeros_of row.counters
    (subst (λ n. InSpans row.counters (replicate n 0)) (sym sized.2) h.counters) c
row_holds b row sized h part.Lost = h.lost
row_holds b row sized h part.LostTicks = h.lost_coeff

-- what is found tells whether it does
pub unheld_tells : (b : Board) (row : CodeRow) (found : Option Unheld) → IsSizedRow row
    → FindsUnheld b (row_view row) found → (found ≡ None) ↔ HoldsStarts b (row_view row)
unheld_tells b row None sized h = ((λ none. holding_row b row sized h), (λ is. refl))
unheld_tells b row (Some m) sized h = (
  (λ none. absurd (some_none none)),
  (λ is. absurd (h.fails (row_holds b row sized is m))),
)
  where
    some_none : Some m ≡ None → ⊥
    some_none e = cc
