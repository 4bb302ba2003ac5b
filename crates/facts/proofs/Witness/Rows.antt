-- The widest row of a board is one of its rows, and admits every start.
use Rattle.std.proofs.Common.{◌≡◌, ◌≤◌, ◌<◌, ℕ, zero, suc, Some, List, [], ◌∷◌, map, replicate}
use Rattle.std.proofs.Common.{slice_get, slice_index, slice_index_or, refl, sym, ap, subst, arith}
use Rattle.std.specs.Prelude.{IsTrue, nat_lt, ◌==◌}
use Rattle.std.proofs.lemmas.Bool.{or_right, false≢true}
use Rattle.std.proofs.lemmas.List.{length-map}
use Rattle.std.proofs.lemmas.List.Elements.{All-contains}
use Rattle.pmbus_table.specs.Protect.{is_protection}
use Rattle.board.specs.Boards.{Target, Board}
use Rattle.board.specs.Valid.{IsBoard, is_page_value}
use Rattle.targets.specs.States.{BusState, IsStart, IsTargetAt}
use Rattle.simulator.specs.Machines.{start_at}
use Rattle.facts.specs.declared.domain.source.Source.{Source}
use Rattle.facts.specs.declared.domain.source.Source.TheVariants as source
use Rattle.facts.specs.declared.domain.span.Span.{Span}
use Rattle.facts.specs.domain.Sets.{Set, empty}
use Rattle.facts.specs.domain.Rows.{IsSource, IsSpan, IsSetOf, IsRow, InSpans, IsFrom, Admits}
use Rattle.facts.specs.domain.Rows.{set_at}
use Rattle.facts.specs.domain.Rows.{no_span}
use Rattle.facts.specs.duties.Duties.{one}
use Rattle.facts.specs.Witnesses.{widest_row}
use Rattle.facts.proofs.Shared.Places.{none_some, some_same, found, is_target}

at_map : {X Y : Type 0} (f : X → Y) (xs : List X) (i : ℕ) (x : X) (d : Y)
    → slice_get xs i ≡ Some x → slice_index_or (map f xs) i d ≡ f x
at_map f [] i x d e = absurd (none_some x e)
at_map f (y ∷ xs) zero x d e = ap f (some_same y x e)
at_map f (y ∷ xs) (suc i) x d e = at_map f xs i x d e

at_replicate : {X : Type 0} (n i : ℕ) (x d : X) → i < n
    → slice_index_or (replicate n x) i d ≡ x
at_replicate zero i x d lt = absurd (omega (arith, lt))
at_replicate (suc n) zero x d lt = refl
at_replicate (suc n) (suc i) x d lt =
    let less : i < n = omega (arith, lt) in
    at_replicate n i x d less

pub no_source : (n r : ℕ) → slice_index_or (replicate n source.None) r source.None ≡ source.None
no_source zero r = refl
no_source (suc n) zero = refl
no_source (suc n) (suc r) = no_source n r

zeros_inside : (n : ℕ) → InSpans (replicate n (one 0)) (replicate n 0)
zeros_inside zero = tt
zeros_inside (suc n) = ((omega arith, omega arith), zeros_inside n)

pages_at : (b : Board) (i : ℕ) (t : Target) → IsTargetAt b i t
    → set_at (widest_row b).pages i ≡ is_page_value t.pages
pages_at b i t at = at_map (λ (u : Target). is_page_value u.pages) b.targets i t empty at

protects_at : (b : Board) (i : ℕ) (t : Target) → IsTargetAt b i t
    → set_at (widest_row b).protects i ≡ is_protection
protects_at b i t at = at_map (λ (u : Target). is_protection) b.targets i t empty at

zero_span : (n r : ℕ) → r < n → slice_index_or (replicate n (one 0)) r no_span ≡ one 0
zero_span n r lt = at_replicate n r (one 0) no_span lt

pub widest_is_row : (b : Board) → IsBoard b → IsRow b (widest_row b)
widest_is_row b is = record {
  page_sets = length-map b.targets _;
  protect_sets = length-map b.targets _;
  pages = λ i t at.
      let P : Set → Type 0 = λ s. IsSetOf (λ v. IsTrue (is_page_value t.pages v)) s in
      subst P (sym (pages_at b i t at)) (record {
        some = (0xFF, or_right (nat_lt 0xFF t.pages) (0xFF == 0xFF) refl);
        each = λ v k. k;
      });
  protects = λ i lt.
      let u = found b.targets i lt in
      let P : Set → Type 0 = λ s. IsSetOf (λ v. IsTrue (is_protection v)) s in
      subst P (sym (protects_at b i u.0 u.1)) (record { some = (0, refl); each = λ v k. k });
  good = λ d g. absurd (false≢true g);
  reg_count = refl;
  regs = λ r lt.
      let P : Span → Type 0 = λ s. IsSpan s in
      subst P (sym (zero_span 8 r lt)) (omega arith);
  reg_range = λ r lt.
      let P : Span → Type 0 = λ s. s.hi < 65536 in
      subst P (sym (zero_span 8 r lt)) (omega arith);
  source_count = refl;
  sources = λ r lt.
      let P : Source → Type 0 = λ s. IsSource b s in
      subst P (sym (no_source 8 r)) tt;
  counter_count = refl;
  counters = λ c lt.
      let P : Span → Type 0 = λ s. IsSpan s × (s.hi ≤ 1000) in
      subst P (sym (zero_span 4 c lt)) (omega arith, omega arith);
  lost = omega arith;
  lost_range = omega arith;
  base = omega arith;
  coeff_count = refl;
  coeffs = λ c lt.
      let none : slice_index (replicate 4 0) c ≡ 0 = at_replicate 4 c 0 0 lt in
      omega (arith, none);
  lost_coeff = omega arith;
}

pub widest_admits : (b : Board) (s : BusState) → IsBoard b → IsStart b s
    → Admits b (widest_row b) (start_at s) []
widest_admits b s is start = record {
  pages = λ i lt.
      let u = found b.targets i lt in
      let P : Set → Type 0 = λ x. IsTrue (x (slice_index s.page i)) in
      subst P (sym (pages_at b i u.0 u.1))
      (All-contains (λ v. IsTrue (is_page_value u.0.pages v)) (Target.start_pages u.0)
      (slice_index s.page i) (is_target b i u.0 is u.1).start_pages
      (start.targets i u.0 u.1).page_listed);
  protects = λ i lt.
      let u = found b.targets i lt in
      let P : Set → Type 0 = λ x. IsTrue (x (slice_index s.protect i)) in
      subst P (sym (protects_at b i u.0 u.1))
      (All-contains (λ v. IsTrue (is_protection v)) (Target.start_protects u.0)
      (slice_index s.protect i) (is_target b i u.0 is u.1).start_protects
      (start.targets i u.0 u.1).protect_listed);
  regs = zeros_inside 8;
  sources = λ r lt.
      let P : Source → Type 0 = λ x. IsFrom b (start_at s) [] x (slice_index (replicate 8 0) r) in
      subst P (sym (no_source 8 r)) tt;
  counters = zeros_inside 4;
  lost = let none = start.fresh in (omega arith, omega (arith, none));
  good = λ d lt g. absurd (false≢true g);
}
