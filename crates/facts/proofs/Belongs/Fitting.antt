-- A row whose parts fit is a row of the board.
use Rattle.std.proofs.Common.{◌≡◌, ◌<◌, ◌≤◌, ◌↔◌, ℕ, zero, suc, List, [], ◌∷◌, length, refl, arith}
use Rattle.std.proofs.Common.{Option, Some, None, Bool, true, false, IsTrue, sym}
use Rattle.std.specs.Prelude.{is_some, not}
use Rattle.std.proofs.lemmas.Bool.{false≢true}
use Rattle.board.specs.Boards.{Board}
use Rattle.facts.specs.declared.domain.row.Row.{Row as CodeRow}
use Rattle.facts.specs.declared.domain.source.Source.{Source}
use Rattle.facts.specs.declared.domain.span.Span.{Span}
use Rattle.facts.specs.declared.well_formed.misfit.Misfit.{Misfit}
use Rattle.facts.specs.declared.well_formed.misfit.Misfit.TheVariants as part
use Rattle.facts.specs.domain.Rows.{Row, IsRow, IsSource, row_view, source_at, span_at}
use Rattle.facts.specs.well_formed.Misfits.{FindsMisfit, PartFits}
use Rattle.facts.specs.well_formed.Shapes.{IsSizedRow}

pub fitting_row : (b : Board) (row : CodeRow) → IsSizedRow row
    → ((n : ℕ) → n < length row.regs → Span.hi (span_at row.regs n) < 65536)
    → ((e : Misfit) → PartFits b (row_view row) e) → IsRow b (row_view row)
fitting_row b row sized words h =
    let regs = sized.0 in
    let counters = sized.2 in
    let coeffs = sized.3 in
    record {
      page_sets = (h part.Sets).0;
      protect_sets = (h part.Sets).1;
      pages = λ i t at. h (part.Pages i) t at;
      protects = λ i lt. h (part.Protects i) lt;
      good = λ d. h (part.Good d);
      reg_count = sized.0;
      regs = λ r lt. h (part.Register r) (omega (arith, regs, lt));
      reg_range = λ r lt. words r (omega (arith, regs, lt));
      source_count = sized.1;
      sources = λ r lt. h (part.Source r);
      counter_count = sized.2;
      counters = λ c lt.
          (h (part.Counter c) (omega (arith, counters, lt)), h (part.Turns c));
      lost = h part.Lost;
      lost_range = h part.Contentions;
      base = (h part.Ticks).0;
      coeff_count = sized.3;
      coeffs = λ c lt. (h part.Ticks).1 c (omega (arith, coeffs, lt));
      lost_coeff = (h part.Ticks).2;
    }

-- what a row hasn't fits
sources_of : (b : Board) (ss : List Source)
    → ((r : ℕ) → r < length ss → IsSource b (source_at ss r)) → (r : ℕ)
    → IsSource b (source_at ss r)
sources_of b [] h r = tt
sources_of b (s ∷ ss) h zero = h 0 (omega arith)
sources_of b (s ∷ ss) h (suc r) = sources_of b ss (λ n lt. h (suc n) (omega (arith, lt))) r

turns_of : (ss : List Span) → ((c : ℕ) → c < length ss → Span.hi (span_at ss c) ≤ 1000)
    → (c : ℕ) → Span.hi (span_at ss c) ≤ 1000
turns_of [] h c = omega arith
turns_of (s ∷ ss) h zero = h 0 (omega arith)
turns_of (s ∷ ss) h (suc c) = turns_of ss (λ n lt. h (suc n) (omega (arith, lt))) c

pub row_fits : (b : Board) (row : Row) → IsRow b row → (e : Misfit) → PartFits b row e
row_fits b row h part.Sets = (h.page_sets, h.protect_sets)
row_fits b row h (part.Pages i) = λ t at. h.pages i t at
row_fits b row h (part.Protects i) = λ lt. h.protects i lt
row_fits b row h (part.Good d) = h.good d
row_fits b row h (part.Register r) =
    let count = h.reg_count in
    λ lt. h.regs r (omega (arith, lt, count))
row_fits b row h (part.Source r) =
    let count = h.source_count in
    sources_of b row.sources (λ n lt. h.sources n (omega (arith, lt, count))) r
row_fits b row h (part.Counter c) =
    let count = h.counter_count in
    λ lt. (h.counters c (omega (arith, lt, count))).0
row_fits b row h part.Lost = h.lost
row_fits b row h part.Contentions = h.lost_range
row_fits b row h (part.Turns c) =
    let count = h.counter_count in
    turns_of row.counters (λ n lt. (h.counters n (omega (arith, lt, count))).1) c
row_fits b row h part.Ticks =
    let count = h.coeff_count in
    (h.base, (λ c lt. h.coeffs c (omega (arith, lt, count))), h.lost_coeff)

-- what is found tells whether it is one
pub misfit_tells : (b : Board) (row : CodeRow) (found : Option Misfit) → IsSizedRow row
    → (found ≡ None → (n : ℕ) → n < length row.regs → Span.hi (span_at row.regs n) < 65536)
    → FindsMisfit b (row_view row) found → (found ≡ None) ↔ IsRow b (row_view row)
misfit_tells b row None sized words h =
    ((λ none. fitting_row b row sized (words refl) h), (λ is. refl))
misfit_tells b row (Some m) sized words h = (
  (λ none. absurd (some_none none)),
  (λ is. absurd (h.fails (row_fits b (row_view row) is m))),
)
  where
    some_none : Some m ≡ None → ⊥
    some_none e = cc

-- a test that nothing is found
pub none_is : {A : Type 0} (found : Option A) (x : Bool) → is_some found ≡ not x → (Is : Type 0)
    → (found ≡ None) ↔ Is → IsTrue x ↔ Is
none_is None true e Is iff = ((λ t. iff.0 refl), (λ is. refl))
none_is None false e Is iff = absurd (false≢true e)
none_is (Some a) true e Is iff = absurd (false≢true (sym e))
none_is (Some a) false e Is iff =
    ((λ t. absurd (false≢true t)), (λ is. absurd (some_none (iff.1 is))))
  where
    some_none : Some a ≡ None → ⊥
    some_none e = cc
