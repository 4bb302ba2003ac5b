-- Rows cover one another where each part does.
use Rattle.std.proofs.Common.{◌≡◌, ◌↔◌, ◌∙◌, ℕ, zero, suc, Bool, IsTrue, List, [], ◌∷◌}
use Rattle.std.proofs.Common.{Option, Some, None, true, false, length, refl, sym, subst, arith}
use Rattle.std.specs.Prelude.{is_some, not}
use Rattle.std.proofs.lemmas.Bool.{false≢true}
use Rattle.board.specs.Boards.{Board}
use Rattle.facts.specs.declared.domain.row.Row.{Row as CodeRow}
use Rattle.facts.specs.declared.domain.row_part.RowPart.{RowPart}
use Rattle.facts.specs.declared.domain.row_part.RowPart.TheVariants as part
use Rattle.facts.specs.declared.domain.span.Span.{Span}
use Rattle.facts.specs.domain.Covering.{CoversByPart, IsSized}
use Rattle.facts.specs.domain.Rows.{row_view, span_at, SetCovers, SpanCovers, AllCover}
use Rattle.facts.specs.domain.Rows.{RowCovers}
use Rattle.facts.specs.domain.Sets.{pages_in, protects_in, Set}
use Rattle.facts.specs.domain.Uncovered.{FindsUncovered, PartCovers}
use Rattle.facts.specs.well_formed.Shapes.{IsSizedRow}
use Rattle.facts.proofs.Coded.Covering.{cover_length}
use Rattle.facts.proofs.Coded.RowCovering.{sets_at, sets_all, sources_at, sources_all}
use Rattle.facts.proofs.Coded.RowCovering.{rows_cover, parts_of_rows}

-- the sets by other names
pub sets_same : (a b c d : Set) (x : Bool) → a ≡ c → b ≡ d → IsTrue x ↔ SetCovers a b
    → IsTrue x ↔ SetCovers c d
sets_same a b c d x e f iff =
    subst (λ s. IsTrue x ↔ SetCovers s d) e (subst (λ s. IsTrue x ↔ SetCovers a s) f iff)

spans_at : (xs ys : List Span) → AllCover SpanCovers xs ys → (n : ℕ)
    → SpanCovers (span_at xs n) (span_at ys n)
spans_at [] [] c n = (omega arith, omega arith)
spans_at [] (y ∷ ys) c n = absurd c
spans_at (x ∷ xs) [] c n = absurd c
spans_at (x ∷ xs) (y ∷ ys) c zero = c.0
spans_at (x ∷ xs) (y ∷ ys) c (suc n) = spans_at xs ys c.1 n

spans_all : (xs ys : List Span) → length xs ≡ length ys
    → ((n : ℕ) → SpanCovers (span_at xs n) (span_at ys n)) → AllCover SpanCovers xs ys
spans_all [] [] e h = tt
spans_all [] (y ∷ ys) e h = absurd (omega arith)
spans_all (x ∷ xs) [] e h = absurd (omega arith)
spans_all (x ∷ xs) (y ∷ ys) e h = (h 0, spans_all xs ys (omega arith) (λ n. h (suc n)))

pub each_part : (s u : CodeRow) → CoversByPart s u → (p : RowPart)
    → PartCovers (row_view s) (row_view u) p
each_part s u c (part.Pages i) = sets_at pages_in s.pages.items u.pages.items c.0 i
each_part s u c (part.Protects i) = sets_at protects_in s.protects.items u.protects.items c.1 i
each_part s u c (part.Good d) = c.2 d
each_part s u c (part.Register r) = spans_at s.regs u.regs c.3 r
each_part s u c (part.Source r) = sources_at s.sources u.sources c.4 r
each_part s u c (part.Counter n) = spans_at s.counters u.counters c.5 n
each_part s u c part.Lost = c.6

pub by_each : (s u : CodeRow) → IsSizedRow s → IsSizedRow u
    → length s.pages.items ≡ length u.pages.items
    → length s.protects.items ≡ length u.protects.items
    → ((p : RowPart) → PartCovers (row_view s) (row_view u) p) → CoversByPart s u
by_each s u m n e f h = (
  sets_all pages_in s.pages.items u.pages.items e (λ i lt. h (part.Pages i)),
  sets_all protects_in s.protects.items u.protects.items f (λ i lt. h (part.Protects i)),
  (λ d. h (part.Good d)),
  spans_all s.regs u.regs (m.0 ∙ sym n.0) (λ r. h (part.Register r)),
  sources_all s.sources u.sources (m.1 ∙ sym n.1) (λ r. h (part.Source r)),
  spans_all s.counters u.counters (m.2 ∙ sym n.2) (λ c. h (part.Counter c)),
  h part.Lost,
)

-- what is found tells whether the parts cover
pub found_tells : (s u : CodeRow) (found : Option RowPart) → IsSizedRow s → IsSizedRow u
    → length s.pages.items ≡ length u.pages.items
    → length s.protects.items ≡ length u.protects.items
    → FindsUncovered (row_view s) (row_view u) found → (found ≡ None) ↔ CoversByPart s u
found_tells s u None m n e f h = ((λ none. by_each s u m n e f h), (λ c. refl))
found_tells s u (Some p) m n e f h = (
  (λ none. absurd (some_none none)),
  (λ c. absurd (h.fails (each_part s u c p))),
)
  where
    some_none : Some p ≡ None → ⊥
    some_none e = cc

none_is : (found : Option RowPart) (x : Bool) → is_some found ≡ not x → IsTrue x ↔ (found ≡ None)
none_is None true e = ((λ t. refl), (λ none. refl))
none_is None false e = absurd (false≢true e)
none_is (Some p) true e = absurd (false≢true (sym e))
none_is (Some p) false e = ((λ t. absurd (false≢true t)), (λ none. absurd (some_none none)))
  where
    some_none : Some p ≡ None → ⊥
    some_none e = cc

pub nothing_tells : (s u : CodeRow) (found : Option RowPart) (x : Bool) → IsSizedRow s
    → IsSizedRow u → FindsUncovered (row_view s) (row_view u) found → is_some found ≡ not x
    → (length s.pages.items ≡ length u.pages.items)
    × (length s.protects.items ≡ length u.protects.items) → IsTrue x ↔ CoversByPart s u
nothing_tells s u found x m n h is alike =
    let tells = found_tells s u found m n alike.0 alike.1 h in
    let none = none_is found x is in
    ((λ t. tells.0 (none.0 t)), (λ c. none.1 (tells.1 c)))

-- rows with other numbers of sets don't cover one another
pub unalike : (s u : CodeRow) (x : Bool)
    → IsTrue x ↔ ((length s.pages.items ≡ length u.pages.items)
    × (length s.protects.items ≡ length u.protects.items))
    → x ≡ false → IsTrue x ↔ CoversByPart s u
unalike s u x alike is = (
  (λ t. absurd (false≢true (sym is ∙ t))),
  (λ c. alike.1 (
    cover_length _ s.pages.items u.pages.items c.0,
    cover_length _ s.protects.items u.protects.items c.1,
  )),
)

-- the same of rows of a board
pub found_rows : (b : Board) (s u : CodeRow) (found : Option RowPart) → IsSizedRow s
    → IsSizedRow u → FindsUncovered (row_view s) (row_view u) found → IsSized b s → IsSized b u
    → (found ≡ None) ↔ RowCovers b (row_view s) (row_view u)
found_rows b s u found m n h p q =
    let tells = found_tells s u found m n (p.pages ∙ sym q.pages) (p.protects ∙ sym q.protects) h
    in (
      (λ none. rows_cover b s u (tells.0 none)),
      (λ c. tells.1 (parts_of_rows b s u (m.1 ∙ sym n.1) p.pages q.pages p.protects q.protects c)),
    )
