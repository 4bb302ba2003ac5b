-- Rows of a board cover one another where their parts do.
use Rattle.std.proofs.Common.{◌≡◌, ◌<◌, ◌↔◌, inl, ◌∙◌, ℕ, zero, suc, Bool, IsTrue, List, [], ◌∷◌}
use Rattle.std.proofs.Common.{length, map, refl, sym, arith}
use Rattle.board.specs.Boards.{Board}
use Rattle.facts.specs.declared.domain.row.Row.{Row as CodeRow}
use Rattle.facts.specs.declared.domain.source.Source.{Source}
use Rattle.facts.specs.declared.domain.span.Span.{Span}
use Rattle.facts.specs.domain.Sets.{Set, pages_in, protects_in}
use Rattle.facts.specs.domain.Rows.{row_view, set_at, source_at, SetCovers, SpanCovers}
use Rattle.facts.specs.domain.Rows.{SourceCovers}
use Rattle.facts.specs.domain.Rows.{AllCover, SpansCover, RowCovers}
use Rattle.facts.specs.domain.Covering.{CoversByPart}

pub sets_at : (f : ℕ → Set) (xs ys : List ℕ) → AllCover (λ s u. SetCovers (f s) (f u)) xs ys
    → (i : ℕ)
    → SetCovers (set_at (map f xs) i) (set_at (map f ys) i)
sets_at f [] [] c i = λ v t. t
sets_at f [] (y ∷ ys) c i = absurd c
sets_at f (x ∷ xs) [] c i = absurd c
sets_at f (x ∷ xs) (y ∷ ys) c zero = c.0
sets_at f (x ∷ xs) (y ∷ ys) c (suc i) = sets_at f xs ys c.1 i

pub sets_all : (f : ℕ → Set) (xs ys : List ℕ) → length xs ≡ length ys
    → ((i : ℕ) → i < length xs → SetCovers (set_at (map f xs) i) (set_at (map f ys) i))
    → AllCover (λ s u. SetCovers (f s) (f u)) xs ys
sets_all f [] [] e h = tt
sets_all f [] (y ∷ ys) e h = absurd (omega arith)
sets_all f (x ∷ xs) [] e h = absurd (omega arith)
sets_all f (x ∷ xs) (y ∷ ys) e h =
    (h 0 (omega arith), sets_all f xs ys (omega arith) (λ i lt. h (suc i) (omega (arith, lt))))

spans_from : (xs ys : List Span) → AllCover SpanCovers xs ys → SpansCover xs ys
spans_from [] [] c = tt
spans_from [] (y ∷ ys) c = absurd c
spans_from (x ∷ xs) [] c = absurd c
spans_from (x ∷ xs) (y ∷ ys) c = (c.0, spans_from xs ys c.1)

spans_to : (xs ys : List Span) → SpansCover xs ys → AllCover SpanCovers xs ys
spans_to [] [] c = tt
spans_to [] (y ∷ ys) c = absurd c
spans_to (x ∷ xs) [] c = absurd c
spans_to (x ∷ xs) (y ∷ ys) c = (c.0, spans_to xs ys c.1)

pub sources_at : (xs ys : List Source) → AllCover SourceCovers xs ys → (r : ℕ)
    → SourceCovers (source_at xs r) (source_at ys r)
sources_at [] [] c r = inl refl
sources_at [] (y ∷ ys) c r = absurd c
sources_at (x ∷ xs) [] c r = absurd c
sources_at (x ∷ xs) (y ∷ ys) c zero = c.0
sources_at (x ∷ xs) (y ∷ ys) c (suc r) = sources_at xs ys c.1 r

pub sources_all : (xs ys : List Source) → length xs ≡ length ys
    → ((r : ℕ) → SourceCovers (source_at xs r) (source_at ys r)) → AllCover SourceCovers xs ys
sources_all [] [] e h = tt
sources_all [] (y ∷ ys) e h = absurd (omega arith)
sources_all (x ∷ xs) [] e h = absurd (omega arith)
sources_all (x ∷ xs) (y ∷ ys) e h = (h 0, sources_all xs ys (omega arith) (λ r. h (suc r)))

pub rows_cover : (b : Board) (s u : CodeRow) → CoversByPart s u
    → RowCovers b (row_view s) (row_view u)
rows_cover b s u c = record {
  pages = λ i lt. sets_at pages_in s.pages.items u.pages.items c.0 i;
  protects = λ i lt. sets_at protects_in s.protects.items u.protects.items c.1 i;
  good = c.2;
  regs = spans_from s.regs u.regs c.3;
  sources = sources_at s.sources u.sources c.4;
  counters = spans_from s.counters u.counters c.5;
  lost = c.6;
}

pub parts_of_rows : (b : Board) (s u : CodeRow) → length s.sources ≡ length u.sources
    → length s.pages.items ≡ length b.targets → length u.pages.items ≡ length b.targets
    → length s.protects.items ≡ length b.targets → length u.protects.items ≡ length b.targets
    → RowCovers b (row_view s) (row_view u) → CoversByPart s u
parts_of_rows b s u e p q r t c = (
  sets_all pages_in s.pages.items u.pages.items (p ∙ sym q)
      (λ i lt. c.pages i (omega (arith, lt, p))),
  sets_all protects_in s.protects.items u.protects.items (r ∙ sym t)
      (λ i lt. c.protects i (omega (arith, lt, r))),
  c.good,
  spans_to s.regs u.regs c.regs,
  sources_all s.sources u.sources e c.sources,
  spans_to s.counters u.counters c.counters,
  c.lost,
)

pub row_covers : (b : Board) (s u : CodeRow) (x : Bool) → length s.sources ≡ length u.sources
    → length s.pages.items ≡ length b.targets → length u.pages.items ≡ length b.targets
    → length s.protects.items ≡ length b.targets → length u.protects.items ≡ length b.targets
    → IsTrue x ↔ CoversByPart s u → IsTrue x ↔ RowCovers b (row_view s) (row_view u)
row_covers b s u x e p q r t iff = (
  (λ holds. rows_cover b s u (iff.0 holds)),
  (λ c. iff.1 (parts_of_rows b s u e p q r t c)),
)
