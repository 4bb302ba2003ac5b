-- Rows of the board with two rails: that they are rows, hold the starts, cover one another and pay.
use Rattle.std.proofs.Common.{◌≡◌, ◌-◌, ◌≤◌, ◌<◌, ◌+◌, ℕ, zero, suc, Some, List, [], ◌∷◌}
use Rattle.std.proofs.Common.{replicate, slice_get, slice_index, slice_index_or, refl, sym, subst}
use Rattle.std.proofs.Common.{arith, inl, lit<, ◌∙◌}
use Rattle.std.specs.Prelude.{IsTrue, All}
use Rattle.std.proofs.lemmas.Bool.{eqb-true, false≢true}
use Rattle.std.proofs.lemmas.List.Elements.{All-from_recursion}
use Rattle.pmbus_table.specs.Protect.{is_protection}
use Rattle.board.specs.Boards.{Target, Rail}
use Rattle.board.specs.Valid.{is_page_value}
use Rattle.targets.specs.States.{IsTargetAt}
use Rattle.facts.specs.declared.domain.source.Source.{Source}
use Rattle.facts.specs.declared.domain.source.Source.TheVariants as source
use Rattle.facts.specs.declared.domain.span.Span.{Span}
use Rattle.facts.specs.domain.Sets.{Set, empty, only}
use Rattle.facts.specs.domain.Rows.{Row, IsRow, IsSetOf, IsSource, IsSpan, InSpans, RowCovers}
use Rattle.facts.specs.domain.Rows.{SetCovers}
use Rattle.facts.specs.domain.Rows.{SpanCovers, SpansCover, SourceCovers, weight, rank, most_ticks}
use Rattle.facts.specs.domain.Rows.{no_span}
use Rattle.facts.specs.duties.Duties.{one}
use Rattle.facts.specs.transfer.Edges.{Edge, edge}
use Rattle.facts.specs.well_formed.Starts.{HoldsStarts}
use Rattle.table_check.specs.Tables.{Table, row_of}
use Rattle.table_check.specs.checker.Rules.{IsCovered, Pays, PaysEnd}
use Rattle.table_check.specs.checker.SmallTables.{two_rails, small_target, small_rail, row_at}
use Rattle.table_check.specs.checker.SmallTables.{known_row}
use Rattle.table_check.proofs.Places.{some_same, none_some}

-- what holds of both targets holds of each
pub each_target : (P : ℕ → Target → Type 0) → P 0 (small_target 0x40) → P 1 (small_target 0x41)
    → (i : ℕ) (t : Target) → IsTargetAt two_rails i t → P i t
each_target P a b zero t at = subst (P 0) (some_same (small_target 0x40) t at) a
each_target P a b (suc zero) t at = subst (P 1) (some_same (small_target 0x41) t at) b
each_target P a b (suc (suc i)) t at = absurd (none_some t at)

-- and what holds of both rails
pub each_rail : (P : ℕ → Rail → Type 0) → P 0 (small_rail 0 1100000 [])
    → P 1 (small_rail 1 3300000 (0 ∷ [])) → (d : ℕ) (r : Rail)
    → slice_get two_rails.rails d ≡ Some r → P d r
each_rail P a b zero r at = subst (P 0) (some_same (small_rail 0 1100000 []) r at) a
each_rail P a b (suc zero) r at = subst (P 1) (some_same (small_rail 1 3300000 (0 ∷ [])) r at) b
each_rail P a b (suc (suc d)) r at = absurd (none_some r at)

pub is_zero : (v : ℕ) → IsTrue (only 0 v) → v ≡ 0
is_zero v k = eqb-true v 0 k

zero_pages : IsSetOf (λ v. IsTrue (is_page_value 1 v)) (only 0)
zero_pages = record { some = (0, refl); each = λ v k. rw (is_zero v k) refl }

zero_protects : IsSetOf (λ v. IsTrue (is_protection v)) (only 0)
zero_protects = record { some = (0, refl); each = λ v k. rw (is_zero v k) refl }

at_replicate : {X : Type 0} (n i : ℕ) (x d : X) → i < n
    → slice_index_or (replicate n x) i d ≡ x
at_replicate zero i x d lt = absurd (omega (arith, lt))
at_replicate (suc n) zero x d lt = refl
at_replicate (suc n) (suc i) x d lt =
    let less : i < n = omega (arith, lt) in
    at_replicate n i x d less

no_source : (n r : ℕ) → slice_index_or (replicate n source.None) r source.None ≡ source.None
no_source zero r = refl
no_source (suc n) zero = refl
no_source (suc n) (suc r) = no_source n r

pub zeros_inside : (n : ℕ) → InSpans (replicate n (one 0)) (replicate n 0)
zeros_inside zero = tt
zeros_inside (suc n) = ((omega arith, omega arith), zeros_inside n)

zeros_cover : (n : ℕ) → SpansCover (replicate n (one 0)) (replicate n (one 0))
zeros_cover zero = tt
zeros_cover (suc n) = ((omega arith, omega arith), zeros_cover n)

-- what holds of the first of 8 and of what the others are
in_eight : {X : Type 0} (P : X → Type 0) (x y d : X) → P x → P y → (r : ℕ) → r < 8
    → P (slice_index_or (x ∷ replicate 7 y) r d)
in_eight P x y d p q zero lt = p
in_eight P x y d p q (suc r) lt =
    let less : r < 7 = omega (arith, lt) in
    subst P (sym (at_replicate 7 r y d less)) q

pub is_row : (good : Set) (span : Span) (s : Source) (base : ℕ)
    → ((d : ℕ) → IsTrue (good d) → d < 2) → IsSpan span → span.hi < 65536 → IsSource two_rails s
    → base ≤ most_ticks → IsRow two_rails (row_at good span s base)
is_row good span s base few some small of-board most = record {
  page_sets = refl;
  protect_sets = refl;
  pages = each_target
      (λ i t. IsSetOf (λ v. IsTrue (is_page_value t.pages v))
      (slice_index_or (only 0 ∷ only 0 ∷ []) i empty)) zero_pages zero_pages;
  protects = protects;
  good = few;
  reg_count = refl;
  regs = in_eight (λ x. IsSpan x) span (one 0) no_span some (omega arith);
  reg_range = in_eight (λ x. x.hi < 65536) span (one 0) no_span small (lit< tt);
  source_count = refl;
  sources = in_eight (λ x. IsSource two_rails x) s source.None source.None of-board tt;
  counter_count = refl;
  counters = λ c lt.
      let P : Span → Type 0 = λ x. IsSpan x × (x.hi ≤ 1000) in
      subst P (sym (at_replicate 4 c (one 0) no_span lt)) (omega arith, omega arith);
  base = most;
  coeff_count = refl;
  coeffs = λ c lt.
      let none : slice_index (replicate 4 0) c ≡ 0 = at_replicate 4 c 0 0 lt in
      omega (arith, none);
  lost = omega arith;
  lost_range = omega arith;
  lost_coeff = omega arith;
}
  where
    protects : (i : ℕ) → i < 2
        → IsSetOf (λ v. IsTrue (is_protection v)) (slice_index_or (only 0 ∷ only 0 ∷ []) i empty)
    protects zero lt = zero_protects
    protects (suc zero) lt = zero_protects
    protects (suc (suc i)) lt = absurd (omega (arith, lt))

-- the row of the places at which nothing more is known
pub is_known_row : (base : ℕ) → base ≤ most_ticks → IsRow two_rails (known_row base)
is_known_row base most =
    is_row empty (one 0) source.None base (λ d k. absurd (false≢true k)) (omega arith) (lit< tt) tt
    most

pub holds_starts : (base : ℕ) → HoldsStarts two_rails (known_row base)
holds_starts base = record {
  pages = each_target
      (λ i t. All (λ v. IsTrue (slice_index_or (only 0 ∷ only 0 ∷ []) i empty v)) t.start_pages)
      zeros zeros;
  protects = each_target
      (λ i t. All (λ v. IsTrue (slice_index_or (only 0 ∷ only 0 ∷ []) i empty v)) t.start_protects)
      zeros zeros;
  good = λ d k. false≢true k;
  regs = zeros_inside 8;
  counters = zeros_inside 4;
  sources = no_source 8;
  lost = (omega arith, omega arith);
  lost_coeff = refl;
}
  where
    zeros : All (λ v. IsTrue (only 0 v)) (0 ∷ [])
    zeros = All-from_recursion (λ v. IsTrue (only 0 v)) (0 ∷ []) (refl, tt)

-- ---- edges

-- the second row knows no less
covers : (good h : Set) (span u : Span) (s r : Source) (base n : ℕ) → SetCovers h good
    → SpanCovers span u → SourceCovers s r
    → RowCovers two_rails (row_at good span s base) (row_at h u r n)
covers good h span u s r base n fewer wider knows = record {
  pages = λ i lt v k. k;
  protects = λ i lt v k. k;
  good = fewer;
  regs = (wider, zeros_cover 7);
  sources = sources;
  counters = zeros_cover 4;
  lost = (omega arith, omega arith);
}
  where
    sources : (x : ℕ)
        → SourceCovers (slice_index_or (s ∷ replicate 7 source.None) x source.None)
        (slice_index_or (r ∷ replicate 7 source.None) x source.None)
    sources zero = knows
    sources (suc x) = inl (no_source 7 x)

no_weight : (n : ℕ) (counters : List ℕ) → weight (replicate n 0) counters ≡ 0
no_weight zero counters = refl
no_weight (suc n) [] = refl
no_weight (suc n) (c ∷ counters) = let none = no_weight n counters in omega (arith, none)

-- an edge's row is covered, and pays for an instruction of so many ticks
abbrev pub Leads : Table → ℕ → Edge → Type 0
Leads t worst e = IsCovered two_rails t e × Pays two_rails t worst e

pub leads : (t : Table) (worst to : ℕ) (good h : Set) (span u : Span) (s r : Source) (base n : ℕ)
    → row_of t to ≡ Some (row_at good span s base) → SetCovers h good → SpanCovers span u
    → SourceCovers s r → worst + base ≤ n → Leads t worst (edge to (row_at h u r n))
leads t worst to good h span u s r base n at fewer wider knows enough = (
  (row_at good span s base, at, covers good h span u s r base n fewer wider knows),
  λ next there counters inside lost here.
      let same : row_at good span s base ≡ next =
      some_same (row_at good span s base) next (sym at ∙ there) in
      subst (λ (x : Row). worst + rank x counters (0 - lost)
      ≤ rank (row_at h u r n) counters (0 - lost)) same
      (let none = no_weight 4 counters in omega (arith, none, enough)),
)

pub pays_end : (good : Set) (span : Span) (s : Source) (base : ℕ) → 1 ≤ base
    → PaysEnd two_rails (row_at good span s base)
pays_end good span s base enough counters inside lost here = omega (arith, enough)
