-- Rows that cover rows.
use Rattle.std.proofs.Common.{◌<◌, ℕ, zero, suc, ◌≤◌, List, [], ◌∷◌, ◌∙◌, inl, inr, refl}
use Rattle.std.proofs.Common.{arith, map, sym}
use Rattle.std.specs.Prelude.{replicate, slice_index}
use Rattle.std.proofs.lemmas.List.{length-map}
use Rattle.board.specs.Boards.{Board}
use Rattle.facts.specs.declared.domain.row.Row.{Row as CodeRow}
use Rattle.facts.specs.declared.domain.source.Source.{Source}
use Rattle.facts.specs.declared.domain.span.Span.{Span}
use Rattle.facts.specs.domain.Covering.{CoversByPart, IsSized}
use Rattle.facts.specs.FactLaws.{IsShaped, Wider, without_ticks}
use Rattle.facts.specs.domain.Rows.{Row, IsRow, AllCover, SetCovers, SpanCovers, SpansCover}
use Rattle.facts.specs.domain.Rows.{SourceCovers}
use Rattle.facts.specs.domain.Rows.{RowCovers, most_ticks, row_view, set_at, source_at}
use Rattle.facts.specs.domain.Sets.{Set, pages_in, protects_in}

pub spans_self : (ss : List Span) → SpansCover ss ss
spans_self [] = tt
spans_self (s ∷ ss) = ((omega arith, omega arith), spans_self ss)

pub spans_trans : (ss us vs : List Span) → SpansCover ss us → SpansCover us vs
    → SpansCover ss vs
spans_trans [] [] [] c k = tt
spans_trans (s ∷ ss) (u ∷ us) (v ∷ vs) c k =
    ((omega (arith, c.0.0, k.0.0), omega (arith, c.0.1, k.0.1)), spans_trans ss us vs c.1 k.1)
spans_trans [] [] (v ∷ vs) c k = absurd k
spans_trans [] (u ∷ us) vs c k = absurd c
spans_trans (s ∷ ss) [] vs c k = absurd c
spans_trans (s ∷ ss) (u ∷ us) [] c k = absurd k

span_trans : (s u v : Span) → SpanCovers s u → SpanCovers u v → SpanCovers s v
span_trans s u v c k = (omega (arith, c.0, k.0), omega (arith, c.1, k.1))

source_trans : (s u v : Source) → SourceCovers s u → SourceCovers u v → SourceCovers s v
source_trans s u v (inl e) k = inl e
source_trans s u v (inr e) (inl f) = inl (e ∙ f)
source_trans s u v (inr e) (inr f) = inr (e ∙ f)

pub covers_self : (b : Board) (row : Row) → RowCovers b row row
covers_self b row = record {
  pages = λ t at' v h. h;
  protects = λ t at' v h. h;
  good = λ d h. h;
  regs = spans_self row.regs;
  sources = λ r. inr refl;
  counters = spans_self row.counters;
  lost = (omega arith, omega arith);
}

pub covers_trans : (b : Board) (s u v : Row) → RowCovers b s u → RowCovers b u v → RowCovers b s v
covers_trans b s u v c k = record {
  pages = λ t at' x h. c.pages t at' x (k.pages t at' x h);
  protects = λ t at' x h. c.protects t at' x (k.protects t at' x h);
  good = λ d h. k.good d (c.good d h);
  regs = spans_trans s.regs u.regs v.regs c.regs k.regs;
  sources = λ r. source_trans (source_at s.sources r) (source_at u.sources r)
      (source_at v.sources r) (c.sources r) (k.sources r);
  counters = spans_trans s.counters u.counters v.counters c.counters k.counters;
  lost = span_trans s.lost u.lost v.lost c.lost k.lost;
}

-- ticks are no part of what is covered
pub over_ticks : (b : Board) (s u : Row) → RowCovers b s (without_ticks u) → RowCovers b s u
over_ticks b s u c = record {
  pages = c.pages;
  protects = c.protects;
  good = c.good;
  regs = c.regs;
  sources = c.sources;
  counters = c.counters;
  lost = c.lost;
}

pub no_ticks_cover : (b : Board) (s u : Row) → RowCovers b s u → RowCovers b (without_ticks s) u
no_ticks_cover b s u c = record {
  pages = c.pages;
  protects = c.protects;
  good = c.good;
  regs = c.regs;
  sources = c.sources;
  counters = c.counters;
  lost = c.lost;
}

-- a row of the board is one whatever its ticks are
pub row_shaped : (b : Board) (row : Row) → IsRow b row → IsShaped b row
row_shaped b row h = record {
  page_sets = h.page_sets;
  protect_sets = h.protect_sets;
  pages = h.pages;
  protects = h.protects;
  good = h.good;
  reg_count = h.reg_count;
  regs = h.regs;
  reg_range = h.reg_range;
  source_count = h.source_count;
  sources = h.sources;
  counter_count = h.counter_count;
  counters = h.counters;
  lost = h.lost;
  lost_range = h.lost_range;
  base = omega arith;
  coeff_count = refl;
  coeffs = λ c lt. zero_at c lt;
  lost_coeff = omega arith;
}
  where
    zero_at : (c : ℕ) → c < 4 → slice_index (replicate 4 0) c ≤ most_ticks
    zero_at zero lt = omega arith
    zero_at (suc zero) lt = omega arith
    zero_at (suc (suc zero)) lt = omega arith
    zero_at (suc (suc (suc zero))) lt = omega arith
    zero_at (suc (suc (suc (suc c)))) lt = absurd (omega (arith, lt))

pub wider : (b : Board) (s u : Row) → IsRow b s → IsRow b u → RowCovers b s u → Wider b s u
wider b s u k h c =
    record { left = row_shaped b s k; right = row_shaped b u h; covers = c }

pub row_sized : (b : Board) (row : CodeRow) → IsShaped b (row_view row) → IsSized b row
row_sized b row h = record {
  pages = sym (length-map row.pages.items pages_in) ∙ h.page_sets;
  protects = sym (length-map row.protects.items protects_in) ∙ h.protect_sets;
}

-- rows of the code that cover part by part
sets_at : (f : ℕ → Set) (xs ys : List ℕ) → AllCover (λ s u. SetCovers (f s) (f u)) xs ys → (i : ℕ)
    → SetCovers (set_at (map f xs) i) (set_at (map f ys) i)
sets_at f [] [] c i = λ v t. t
sets_at f [] (y ∷ ys) c i = absurd c
sets_at f (x ∷ xs) [] c i = absurd c
sets_at f (x ∷ xs) (y ∷ ys) c zero = c.0
sets_at f (x ∷ xs) (y ∷ ys) c (suc i) = sets_at f xs ys c.1 i

pub spans_from : (xs ys : List Span) → AllCover SpanCovers xs ys → SpansCover xs ys
spans_from [] [] c = tt
spans_from [] (y ∷ ys) c = absurd c
spans_from (x ∷ xs) [] c = absurd c
spans_from (x ∷ xs) (y ∷ ys) c = (c.0, spans_from xs ys c.1)

sources_at : (xs ys : List Source) → AllCover SourceCovers xs ys → (r : ℕ)
    → SourceCovers (source_at xs r) (source_at ys r)
sources_at [] [] c r = inl refl
sources_at [] (y ∷ ys) c r = absurd c
sources_at (x ∷ xs) [] c r = absurd c
sources_at (x ∷ xs) (y ∷ ys) c zero = c.0
sources_at (x ∷ xs) (y ∷ ys) c (suc r) = sources_at xs ys c.1 r

pub rows_cover : (b : Board) (s u : CodeRow) → CoversByPart s u
    → RowCovers b (row_view s) (row_view u)
rows_cover b s u c = record {
  pages = λ i lt. sets_at pages_in s.pages.items u.pages.items c.0 i;
  protects = λ i lt. sets_at protects_in s.protects.items u.protects.items c.1 i;
  good = c.2;
  regs = spans_from s.regs u.regs c.3;
  sources = sources_at s.sources u.sources c.4;
  counters = spans_from s.counters u.counters c.5;
  lost = c.6;
}
