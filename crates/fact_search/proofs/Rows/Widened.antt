-- Rows whose spans are widened.
use Rattle.std.proofs.Common.{◌≡◌, ◌<◌, ◌≤◌, ℕ, zero, suc, List, [], ◌∷◌, length, refl, ◌∙◌}
use Rattle.std.proofs.Common.{arith, All, inr}
use Rattle.std.specs.Prelude.{slice_index_or, slice_set}
use Rattle.std.specs.List.{AllByRecursion}
use Rattle.std.proofs.lemmas.List.Elements.{All-from_recursion, recursion_from_All}
use Rattle.board.specs.Boards.{Board}
use Rattle.facts.specs.declared.domain.span.Span.{Span}
use Rattle.facts.specs.domain.Rows.{Row, IsRow, RowCovers, SpanCovers, SpansCover, no_span}
use Rattle.fact_search.proofs.Rows.Joined.{spans_length, span_at_covers}

-- one span more
pub spans_set : (ss us : List Span) (i : ℕ) (x d : Span) → SpansCover ss us → i < length ss
    → SpanCovers x (slice_index_or ss i d) → SpansCover (slice_set ss i x) us
spans_set [] us i x d c lt k = absurd (omega (arith, lt))
spans_set (s ∷ ss) [] i x d c lt k = absurd c
spans_set (s ∷ ss) (u ∷ us) zero x d c lt k =
    ((omega (arith, c.0.0, k.0), omega (arith, c.0.1, k.1)), c.1)
spans_set (s ∷ ss) (u ∷ us) (suc i) x d c lt k =
    (c.0, spans_set ss us i x d c.1 (omega (arith, lt)) k)

set_each : {X : Type 0} (P : X → Type 0) (xs : List X) (i : ℕ) (x : X) → AllByRecursion P xs
    → P x → AllByRecursion P (slice_set xs i x)
set_each P [] i x h k = tt
set_each P (y ∷ xs) zero x h k = (k, h.1)
set_each P (y ∷ xs) (suc i) x h k = (h.0, set_each P xs i x h.1 k)

pub all_set : {X : Type 0} (P : X → Type 0) (xs : List X) (i : ℕ) (x : X) → All P xs → P x
    → All P (slice_set xs i x)
all_set P xs i x h k =
    All-from_recursion P (slice_set xs i x) (set_each P xs i x (recursion_from_All P xs h) k)

by_index : {X : Type 0} (P : X → Type 0) (xs : List X) (d : X)
    → ((r : ℕ) → r < length xs → P (slice_index_or xs r d)) → AllByRecursion P xs
by_index P [] d h = tt
by_index P (x ∷ xs) d h =
    (h 0 (omega arith), by_index P xs d (λ r lt. h (suc r) (omega (arith, lt))))

pub all_by_index : {X : Type 0} (P : X → Type 0) (xs : List X) (d : X) (n : ℕ) → length xs ≡ n
    → ((r : ℕ) → r < n → P (slice_index_or xs r d)) → All P xs
all_by_index P xs d n e h =
    All-from_recursion P xs (by_index P xs d (λ r lt. h r (omega (arith, e, lt))))

-- a row with wider spans
pub widens : (b : Board) (row : Row) (regs counters : List Span) (lost : Span) → IsRow b row
    → SpansCover regs row.regs → All (λ s. s.hi ≤ 65535) regs → SpansCover counters row.counters
    → All (λ s. s.hi ≤ 1000) counters → SpanCovers lost row.lost → lost.hi ≤ b.contentions
    → IsRow b (record row { regs = regs; counters = counters; lost = lost })
widens b row regs counters lost k c low d few over under = record {
  page_sets = k.page_sets;
  protect_sets = k.protect_sets;
  pages = k.pages;
  protects = k.protects;
  good = k.good;
  reg_count = reg_count;
  regs = λ r lt.
      let x = span_at_covers regs row.regs r c in
      let y = k.regs r lt in omega (arith, x.0, x.1, y);
  reg_range = λ r lt. let x = low r no_span (omega (arith, reg_count, lt)) in omega (arith, x);
  source_count = k.source_count;
  sources = k.sources;
  counter_count = counter_count;
  counters = λ r lt.
      let x = span_at_covers counters row.counters r d in
      let y = k.counters r lt in
      (omega (arith, x.0, x.1, y.0), few r no_span (omega (arith, counter_count, lt)));
  lost = let h = k.lost in omega (arith, over.0, over.1, h);
  lost_range = under;
  base = k.base;
  coeff_count = k.coeff_count;
  coeffs = k.coeffs;
  lost_coeff = k.lost_coeff;
}
  where
    reg_count : length regs ≡ 8
    reg_count = spans_length regs row.regs c ∙ k.reg_count

    counter_count : length counters ≡ 4
    counter_count = spans_length counters row.counters d ∙ k.counter_count

pub widens_covers : (b : Board) (row : Row) (regs counters : List Span) (lost : Span)
    → SpansCover regs row.regs → SpansCover counters row.counters → SpanCovers lost row.lost
    → RowCovers b (record row { regs = regs; counters = counters; lost = lost }) row
widens_covers b row regs counters lost c d over = record {
  pages = λ i lt v t. t;
  protects = λ i lt v t. t;
  good = λ d t. t;
  regs = c;
  sources = λ r. inr refl;
  counters = d;
  lost = (over.0, over.1);
}
