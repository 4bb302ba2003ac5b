-- The row of the start: a row of the board, which every row covers that holds the starts.
use Rattle.std.proofs.Common.{◌≡◌, ◌<◌, ◌≤◌, ◌⊎◌, ℕ, zero, suc, ◌+◌, List, [], ◌∷◌, ◌++◌, length}
use Rattle.std.proofs.Common.{map}
use Rattle.std.proofs.Common.{Bool, true, false, All, IsTrue, take, get_or, refl, ap, sym}
use Rattle.std.proofs.Common.{◌∙◌, subst, inl, inr, arith}
use Rattle.std.proofs.lemmas.Bool.{cases_Bool, cond-true, cond-false, or_cases, or_left, or_right}
use Rattle.std.proofs.lemmas.Bool.{eqb-true, eq-eqb, false≢true}
use Rattle.std.proofs.lemmas.Bool.Decides.{nat_tests}
use Rattle.std.proofs.lemmas.List.{length-map, take_all}
use Rattle.std.proofs.lemmas.List.Elements.{All-from_recursion, recursion_from_All}
use Rattle.std.specs.List.{AllByRecursion}
use Rattle.std.specs.Prelude.{Contains, Option, Some, None, option_map, replicate, slice_get}
use Rattle.std.specs.Prelude.{slice_index, slice_index_or, ◌==◌}
use Rattle.pmbus_table.specs.Protect.{is_protection}
use Rattle.board.specs.Boards.{Board, Target}
use Rattle.board.specs.Valid.{IsBoard, IsTarget, is_page_value}
use Rattle.facts.specs.declared.domain.row.Row.{Row as CodeRow}
use Rattle.facts.specs.declared.domain.source.Source.{Source}
use Rattle.facts.specs.declared.domain.source.Source.TheVariants as source
use Rattle.facts.specs.declared.domain.span.Span.{Span}
use Rattle.facts.specs.duties.Duties.{one}
use Rattle.facts.specs.domain.Rows.{IsRow, IsSetOf, IsSource, IsSpan, InSpan, InSpans}
use Rattle.facts.specs.domain.Rows.{SpanCovers, SpansCover}
use Rattle.facts.specs.domain.Rows.{no_span, row_view, set_at, source_at}
use Rattle.facts.specs.domain.Sets.{Set, empty, gains, is_page, is_protect, pages_in, protects_in}
use Rattle.facts.specs.domain.Sets.{rails_in, set_of, with_values}
use Rattle.facts.specs.well_formed.Starts.{SaysJustStart}
use Rattle.fact_search.specs.Starting.{HoldsJust, HoldEachStart, IsStartRow}
use Rattle.fact_search.proofs.Shared.Places.{at_replicate, found, is_target, none_some, some_same}

-- a set that gains values has these, and what it had
record HasGained (s x : Set) (values : List ℕ) : Type 0 where
  pub had : (v : ℕ) → IsTrue (s v) → IsTrue (x v)
  pub each : AllByRecursion (λ v. IsTrue (x v)) values
  pub either : (v : ℕ) → IsTrue (x v) → IsTrue (s v) ⊎ Contains values v

contains_first : (v : ℕ) (vs : List ℕ) → Contains (v ∷ vs) v
contains_first v vs = (0, omega arith, refl)

contains_later : (v x : ℕ) (vs : List ℕ) → Contains vs x → Contains (v ∷ vs) x
contains_later v x vs c = (suc c.0, (let k = c.1 in omega (arith, k)), c.2)

gained : (kind : ℕ → Bool) (s x : Set) (values : List ℕ) → with_values kind s values ≡ Some x
    → HasGained s x values
gained kind s x [] e = record {
  had = λ v t. subst (λ (z : Set). IsTrue (z v)) (some_same s x e) t;
  each = tt;
  either = λ v t. inl (subst (λ (z : Set). IsTrue (z v)) (sym (some_same s x e)) t);
}
gained kind s x (v ∷ vs) e = go (λ h. gained kind (gains s v) x vs h) (cases_Bool (kind v))
  where
    go : (with_values kind (gains s v) vs ≡ Some x → HasGained (gains s v) x vs)
        → (kind v ≡ true) ⊎ (kind v ≡ false) → HasGained s x (v ∷ vs)
    go rest (inr f) = absurd (none_some x (sym (cond-false (kind v)
        (with_values kind (gains s v) vs) None f) ∙ e))
    go rest (inl t) =
        let k = rest (sym (cond-true (kind v)
        (with_values kind (gains s v) vs) None t) ∙ e) in
        record {
          had = λ w h. k.had w (or_left (s w) (w == v) h);
          each = (k.had v (or_right (s v) (v == v) (eq-eqb v v refl)), k.each);
          either = λ w h. by w (k.either w h);
        }
      where
        by : (w : ℕ) → IsTrue (gains s v w) ⊎ Contains vs w → IsTrue (s w) ⊎ Contains (v ∷ vs) w
        by w (inr c) = inr (contains_later v w vs c)
        by w (inl h) = at (or_cases (s w) (w == v) h)
          where
            at : (s w ≡ true) ⊎ ((w == v) ≡ true) → IsTrue (s w) ⊎ Contains (v ∷ vs) w
            at (inl y) = inl y
            at (inr y) =
                let P : ℕ → Type 0 = λ z. Contains (v ∷ vs) z in
                inr (subst P (sym (eqb-true w v y)) (contains_first v vs))

pub just : (kind : ℕ → Bool) (view : ℕ → Set) (o : Option ℕ) (set : ℕ) (values : List ℕ)
    → option_map view o ≡ set_of kind values → o ≡ Some set → HoldsJust (view set) values
just kind view o set values e is =
    let k = gained kind empty (view set) values (sym e ∙ ap (option_map view) is) in (
      All-from_recursion (λ v. IsTrue (view set v)) values k.each,
      λ v t. here v (k.either v t),
    )
  where
    here : (v : ℕ) → IsTrue (empty v) ⊎ Contains values v → Contains values v
    here v (inl t) = absurd (false≢true t)
    here v (inr c) = c

some_set : (kind : ℕ → Bool) (s : Set) (values : List ℕ)
    → AllByRecursion (λ v. IsTrue (kind v)) values → with_values kind s values ≡ None → ⊥
some_set kind s [] all e = none_some s (sym e)
some_set kind s (v ∷ vs) all e =
    some_set kind (gains s v) vs all.1
    (sym (cond-true (kind v) (with_values kind (gains s v) vs) None all.0) ∙ e)

pub never_none : (kind : ℕ → Bool) (view : ℕ → Set) (o : Option ℕ) (values : List ℕ)
    → option_map view o ≡ set_of kind values → o ≡ None → All (λ v. IsTrue (kind v)) values → ⊥
never_none kind view o values e is all =
    some_set kind empty values (recursion_from_All (λ v. IsTrue (kind v)) values all)
    (sym e ∙ ap (option_map view) is)

-- a target's starts are values of their kinds
page_kind : (pages v : ℕ) → pages ≤ 32 → is_page_value pages v ≡ true → is_page v ≡ true
page_kind pages v few t = grind (arith, nat_tests)

protect_kind : (v : ℕ) → is_protection v ≡ true → is_protect v ≡ true
protect_kind v t = grind (arith, nat_tests)

pub start_pages_fit : (t : Target) → IsTarget t → All (λ v. IsTrue (is_page v)) t.start_pages
start_pages_fit t k i d lt = page_kind t.pages (get_or t.start_pages i d) k.few_pages
    (k.start_pages i d lt)

pub start_protects_fit : (t : Target) → IsTarget t
    → All (λ v. IsTrue (is_protect v)) t.start_protects
start_protects_fit t k i d lt =
    protect_kind (get_or t.start_protects i d) (k.start_protects i d lt)

-- one target more
each_next : (view : ℕ → Set) (starts : Target → List ℕ) (i : ℕ) (sets : List ℕ)
    (ts : List Target) (x : ℕ) (t : Target) → HoldEachStart view starts sets (take i ts)
    → i < length ts → get_or ts i t ≡ t → HoldsJust (view x) (starts t)
    → HoldEachStart view starts (sets ++ x ∷ []) (take (suc i) ts)
each_next view starts i sets [] x t h lt e k = absurd (omega (arith, lt))
each_next view starts zero [] (u ∷ ts) x t h lt e k =
    let P : Target → Type 0 = λ z. HoldsJust (view x) (starts z) in (subst P (sym e) k, tt)
each_next view starts zero (s ∷ sets) (u ∷ ts) x t h lt e k = absurd h
each_next view starts (suc i) [] (u ∷ ts) x t h lt e k = absurd h
each_next view starts (suc i) (s ∷ sets) (u ∷ ts) x t h lt e k =
    (h.0, each_next view starts i sets ts x t h.1 (omega (arith, lt)) e k)

pub each_more : (view : ℕ → Set) (starts : Target → List ℕ) (i : ℕ) (sets : List ℕ)
    (ts : List Target) (x : ℕ) (t : Target) → HoldEachStart view starts sets (take i ts)
    → i < length ts → get_or ts i t ≡ t → HoldsJust (view x) (starts t)
    → HoldEachStart view starts (sets ++ x ∷ []) (take (i + 1) ts)
each_more view starts i sets ts x t h lt e k =
    let more : suc i ≡ i + 1 = omega arith in
    let P : ℕ → Type 0 = λ n. HoldEachStart view starts (sets ++ x ∷ []) (take n ts) in
    subst P more (each_next view starts i sets ts x t h lt e k)

pub each_done : (view : ℕ → Set) (starts : Target → List ℕ) (i : ℕ) (sets : List ℕ)
    (ts : List Target) → HoldEachStart view starts sets (take i ts) → length ts ≤ i
    → HoldEachStart view starts sets ts
each_done view starts i sets ts h le =
    let P : List Target → Type 0 = λ xs. HoldEachStart view starts sets xs in
    subst P (take_all i ts le) h

each_length : (view : ℕ → Set) (starts : Target → List ℕ) (sets : List ℕ) (ts : List Target)
    → HoldEachStart view starts sets ts → length sets ≡ length ts
each_length view starts [] [] h = refl
each_length view starts (s ∷ sets) (t ∷ ts) h = ap suc (each_length view starts sets ts h.1)
each_length view starts [] (t ∷ ts) h = absurd h
each_length view starts (s ∷ sets) [] h = absurd h

each_at : (view : ℕ → Set) (starts : Target → List ℕ) (sets : List ℕ) (ts : List Target) (i : ℕ)
    (t : Target) → HoldEachStart view starts sets ts → slice_get ts i ≡ Some t
    → HoldsJust (set_at (map view sets) i) (starts t)
each_at view starts [] [] i t h e = absurd (none_some t e)
each_at view starts (s ∷ sets) (u ∷ ts) zero t h e =
    let P : Target → Type 0 = λ z. HoldsJust (view s) (starts z) in
    subst P (some_same u t e) h.0
each_at view starts (s ∷ sets) (u ∷ ts) (suc i) t h e =
    each_at view starts sets ts i t h.1 e
each_at view starts [] (u ∷ ts) i t h e = absurd h
each_at view starts (s ∷ sets) [] i t h e = absurd h

-- of a nonempty list a set
set_of_all : (P : ℕ → Type 0) (s : Set) (values : List ℕ) → HoldsJust s values
    → 0 < length values → All P values → IsSetOf P s
set_of_all P s values k lt all = record {
  some = (slice_index_or values 0 0, k.0 0 0 lt);
  each = λ v t. let c = k.1 v t in subst P c.2 (all c.0 v c.1);
}

no_source : (n r : ℕ) → slice_index_or (replicate n source.None) r source.None ≡ source.None
no_source zero r = refl
no_source (suc n) zero = refl
no_source (suc n) (suc r) = no_source n r

zeros_inside : (n : ℕ) → InSpans (replicate n (one 0)) (replicate n 0)
zeros_inside zero = tt
zeros_inside (suc n) = ((omega arith, omega arith), zeros_inside n)

spans_hold : (n : ℕ) (ss : List Span) → InSpans ss (replicate n 0)
    → SpansCover ss (replicate n (one 0))
spans_hold zero [] k = tt
spans_hold zero (s ∷ ss) k = absurd k
spans_hold (suc n) [] k = absurd k
spans_hold (suc n) (s ∷ ss) k = ((k.0.0, k.0.1), spans_hold n ss k.1)

-- what the row of the start is made of
pub record StartsBy (b : Board) (row : CodeRow) : Type 0 where
  pub pages : HoldEachStart pages_in (λ t. t.start_pages) row.pages.items b.targets
  pub protects : HoldEachStart protects_in (λ t. t.start_protects) row.protects.items b.targets
  pub rest : SaysJustStart (row_view row)

none_good : (b : Board) (row : CodeRow) → StartsBy b row → (d : ℕ) → IsTrue (rails_in row.good d)
    → ⊥
none_good b row k d good =
    let P : Set → Type 0 = λ s. IsTrue (s d) in
    false≢true (subst P k.rest.good good)

zero_span : (ss : List Span) (n r : ℕ) → ss ≡ replicate n (one 0) → r < n
    → slice_index_or ss r no_span ≡ one 0
zero_span ss n r e lt =
    ap (λ (xs : List Span). slice_index_or xs r no_span) e ∙ at_replicate n r (one 0) no_span lt

pub start_shaped : (b : Board) (row : CodeRow) → IsBoard b → StartsBy b row
    → IsRow b (row_view row)
start_shaped b row is k = record {
  page_sets = length-map row.pages.items pages_in
      ∙ each_length pages_in (λ t. t.start_pages) row.pages.items b.targets k.pages;
  protect_sets = length-map row.protects.items protects_in
      ∙ each_length protects_in (λ t. t.start_protects) row.protects.items b.targets k.protects;
  pages = λ i t at.
      let u = is_target b i t is at in
      set_of_all (λ v. IsTrue (is_page_value t.pages v)) (set_at (map pages_in row.pages.items) i)
      t.start_pages
      (each_at pages_in (λ z. z.start_pages) row.pages.items b.targets i t k.pages at)
      u.starts_paged u.start_pages;
  protects = λ i lt.
      let f = found b.targets i lt in
      let t : Target = f.0 in
      let u = is_target b i t is f.1 in
      set_of_all (λ v. IsTrue (is_protection v)) (set_at (map protects_in row.protects.items) i)
      t.start_protects
      (each_at protects_in (λ z. z.start_protects) row.protects.items b.targets i t k.protects
      f.1) u.starts_protected u.start_protects;
  good = λ d g. absurd (none_good b row k d g);
  reg_count = ap (λ (xs : List Span). length xs) k.rest.regs;
  regs = λ r lt. let P : Span → Type 0 = λ s. IsSpan s in
      subst P (sym (zero_span row.regs 8 r k.rest.regs lt)) (omega arith);
  reg_range = λ r lt. let P : Span → Type 0 = λ s. s.hi < 65536 in
      subst P (sym (zero_span row.regs 8 r k.rest.regs lt)) (omega arith);
  source_count = ap (λ (xs : List Source). length xs) k.rest.sources;
  sources = λ r lt. let P : Source → Type 0 = λ s. IsSource b s in
      subst P (sym (none_at r)) tt;
  counter_count = ap (λ (xs : List Span). length xs) k.rest.counters;
  counters = λ c lt. let P : Span → Type 0 = λ s. IsSpan s × (s.hi ≤ 1000) in
      subst P (sym (zero_span row.counters 4 c k.rest.counters lt)) (omega arith, omega arith);
  lost = subst IsSpan (sym k.rest.lost) (omega arith);
  lost_range = let P : Span → Type 0 = λ s. s.hi ≤ b.contentions in
      subst P (sym k.rest.lost) (omega arith);
  base = let z = k.rest.base in omega (arith, z);
  coeff_count = ap (λ (xs : List ℕ). length xs) k.rest.coeffs;
  coeffs = λ c lt.
      let none = ap (λ (xs : List ℕ). slice_index xs c) k.rest.coeffs in
      let z : slice_index (replicate 4 0) c ≡ 0 = at_replicate 4 c 0 0 lt in
      omega (arith, none, z);
  lost_coeff = let z = k.rest.lost_coeff in omega (arith, z);
}
  where
    none_at : (r : ℕ) → source_at row.sources r ≡ source.None
    none_at r = ap (λ (xs : List Source). source_at xs r) k.rest.sources ∙ no_source 8 r

pub start_is : (b : Board) (row : CodeRow) → IsBoard b → StartsBy b row
    → IsStartRow b (row_view row)
start_is b row is k = record {
  shaped = start_shaped b row is k;
  holds = record {
    pages = λ i t at.
        (each_at pages_in (λ z. z.start_pages) row.pages.items b.targets i t k.pages at).0;
    protects = λ i t at.
        (each_at protects_in (λ z. z.start_protects) row.protects.items b.targets i t
        k.protects at).0;
    good = none_good b row k;
    regs = let P : List Span → Type 0 = λ ss. InSpans ss (replicate 8 0) in
        subst P (sym k.rest.regs) (zeros_inside 8);
    counters = let P : List Span → Type 0 = λ ss. InSpans ss (replicate 4 0) in
        subst P (sym k.rest.counters) (zeros_inside 4);
    lost = let P : Span → Type 0 = λ s. InSpan s 0 in
        subst P (sym k.rest.lost) (omega arith, omega arith);
    lost_coeff = k.rest.lost_coeff;
    sources = λ r.
        ap (λ (xs : List Source). source_at xs r) k.rest.sources ∙ no_source 8 r;
  };
  least = λ other h. record {
    pages = λ i lt v t.
        let f = found b.targets i lt in
        let u : Target = f.0 in
        let c = (each_at pages_in (λ z. z.start_pages) row.pages.items b.targets i u k.pages
        f.1).1 v t in
        let P : ℕ → Type 0 = λ x. IsTrue (set_at other.pages i x) in
        subst P c.2 (h.pages i u f.1 c.0 v c.1);
    protects = λ i lt v t.
        let f = found b.targets i lt in
        let u : Target = f.0 in
        let c = (each_at protects_in (λ z. z.start_protects) row.protects.items b.targets i u
        k.protects f.1).1 v t in
        let P : ℕ → Type 0 = λ x. IsTrue (set_at other.protects i x) in
        subst P c.2 (h.protects i u f.1 c.0 v c.1);
    good = λ d g. absurd (h.good d g);
    regs = let P : List Span → Type 0 = λ ss. SpansCover other.regs ss in
        subst P (sym k.rest.regs) (spans_hold 8 other.regs h.regs);
    sources = λ r. inl (h.sources r);
    counters = let P : List Span → Type 0 = λ ss. SpansCover other.counters ss in
        subst P (sym k.rest.counters) (spans_hold 4 other.counters h.counters);
    lost = let P : Span → Type 0 = λ s. SpanCovers other.lost s in
        subst P (sym k.rest.lost) (h.lost.0, h.lost.1);
  };
}

pub target_of : (ts : List Target) (i : ℕ) (t : Target) → All IsTarget ts → i < length ts
    → t ≡ get_or ts i t → IsTarget t
target_of ts i t all lt e = subst IsTarget (sym e) (all i t lt)
