-- Rows stay rows of the board through the operations on rows.
use Rattle.std.proofs.Common.{◌≡◌, ℕ, zero, suc, ◌<◌, ◌≤◌, ◌⊎◌, List, [], ◌∷◌, length, refl, ap}
use Rattle.std.proofs.Common.{sym, ◌∙◌, subst, inl, inr, Bool, true, false, not}
use Rattle.std.proofs.lemmas.Bool.{eqb-true, and_parts, or_cases, cases_eq, cond_both}
use Rattle.std.proofs.lemmas.List.{get_or-set_same, get_or-set_other}
use Rattle.std.specs.Prelude.{slice_index_or, slice_set, ◌==◌, IsTrue}
use Rattle.pmbus_table.specs.Protect.{is_protection}
use Rattle.board.specs.Boards.{Target, Board}
use Rattle.board.specs.Valid.{is_page_value}
use Rattle.targets.specs.States.{IsTargetAt}
use Rattle.facts.specs.declared.domain.source.Source.{Source}
use Rattle.facts.specs.declared.domain.source.Source.TheVariants as source
use Rattle.facts.specs.declared.domain.span.Span.{Span}
use Rattle.facts.specs.domain.Sets.{Set, empty}
use Rattle.facts.specs.domain.Rows.{Row, set_at, span_at, source_at, no_span, IsSource, IsSetOf}
use Rattle.facts.specs.duties.Duties.{is_touched}
use Rattle.facts.specs.transfer.Edges.{with_page, with_protect, without_touched, with_reg, clear}
use Rattle.facts.specs.transfer.Edges.{forget}
use Rattle.facts.specs.transfer.Edges.{is_page_of, is_protect_of, is_status_of, learn_good, reg_in}
use Rattle.facts.specs.FactLaws.{IsShaped}
use Rattle.facts.proofs.Shared.Lists.{source-clear}
use Rattle.facts.proofs.Shared.Places.{same_at, within}
use Rattle.facts.proofs.Covered.MessageEdges.{length_clear}

pub length_set : {A : Type 0} → (xs : List A) (i : ℕ) (x : A)
    → length (slice_set xs i x) ≡ length xs
length_set [] i x = refl
length_set (y ∷ ys) zero x = refl
length_set (y ∷ ys) (suc i) x = ap suc (length_set ys i x)

-- what holds at each place of a list, and of what is put in
set_keeps : {A : Type 0} → (xs : List A) (i j : ℕ) (x d : A) (P : A → Type 0) → P x
    → P (slice_index_or xs j d) → (i < length xs) → P (slice_index_or (slice_set xs i x) j d)
set_keeps xs i j x d P new old lt = go (cases_eq j i)
  where
    go : (j ≡ i) ⊎ (j ≡ i → ⊥) → P (slice_index_or (slice_set xs i x) j d)
    go (inl e) = subst P (sym (ap (λ k. slice_index_or (slice_set xs i x) k d) e ∙
        get_or-set_same xs i x d lt)) new
    go (inr ne) = subst P (sym (get_or-set_other xs i j x d ne)) old

abbrev pub IsPageSet : Target → Set → Type 0
IsPageSet t s = IsSetOf (λ v. IsTrue (is_page_value t.pages v)) s

abbrev pub IsProtectSet : Set → Type 0
IsProtectSet s = IsSetOf (λ v. IsTrue (is_protection v)) s

forget_source : (b : Board) (p : Source → Bool) (s : Source) → IsSource b s
    → IsSource b (forget p s)
forget_source b p s k = cond_both (p s) source.None s (λ z. IsSource b z) (λ _. tt) (λ _. k)

cleared : (b : Board) (p : Source → Bool) (ss : List Source) → p source.None ≡ false
    → ((r : ℕ) → r < 8 → IsSource b (source_at ss r)) → (r : ℕ) → r < 8
    → IsSource b (source_at (clear p ss) r)
cleared b p ss e k r lt = let P : Source → Type 0 = λ z. IsSource b z in
    subst P (sym (source-clear p ss r e)) (forget_source b p (source_at ss r) (k r lt))

pub page_sets_set : (b : Board) (row : Row) (i : ℕ) (t : Target) (s : Set) → IsShaped b row
    → IsTargetAt b i t
    → IsPageSet t s → (j : ℕ) (u : Target) → IsTargetAt b j u
    → IsPageSet u (set_at (slice_set row.pages i s) j)
page_sets_set b row i t s k at' new j u there = go (cases_eq j i)
  where
    inside : i < length row.pages
    inside = let L : ℕ → Type 0 = λ n. i < n in subst L (sym k.page_sets)
        (within b.targets i t at')

    go : (j ≡ i) ⊎ (j ≡ i → ⊥) → IsPageSet u (set_at (slice_set row.pages i s) j)
    go (inl e) =
        let P : Set → Type 0 = λ z. IsPageSet u z in
        let Q : Target → Type 0 = λ x. IsPageSet x s in
        let A : ℕ → Type 0 = λ x. IsTargetAt b x u in
        subst P (sym (ap (set_at (slice_set row.pages i s)) e
        ∙ get_or-set_same row.pages i s empty inside))
        (subst Q (same_at b.targets i t u at' (subst A e there)) new)
    go (inr ne) = let P : Set → Type 0 = λ z. IsPageSet u z in
        subst P (sym (get_or-set_other row.pages i j s empty ne)) (k.pages j u there)

pub protect_sets_set : (b : Board) (row : Row) (t : ℕ) (s : Set) → IsShaped b row
    → t < length b.targets → IsProtectSet s → (u : ℕ) → u < length b.targets
    → IsProtectSet (set_at (slice_set row.protects t s) u)
protect_sets_set b row t s k at' new u there =
    set_keeps row.protects t u s empty IsProtectSet new (k.protects u there)
    (let L : ℕ → Type 0 = λ n. t < n in subst L (sym k.protect_sets) at')

pub page_shaped : (b : Board) (row : Row) (i : ℕ) (t : Target) (s : Set) → IsShaped b row
    → IsTargetAt b i t
    → IsPageSet t s → IsShaped b (with_page row i s)
page_shaped b row i t s k at' new = record {
  page_sets = length_set row.pages i s ∙ k.page_sets;
  protect_sets = k.protect_sets;
  pages = page_sets_set b row i t s k at' new;
  protects = k.protects;
  good = k.good;
  reg_count = k.reg_count;
  regs = k.regs;
  reg_range = k.reg_range;
  source_count = length_clear (is_page_of i) row.sources ∙ k.source_count;
  sources = cleared b (is_page_of i) row.sources refl k.sources;
  counter_count = k.counter_count;
  counters = k.counters;
  lost = k.lost;
  lost_range = k.lost_range;
  base = k.base;
  coeff_count = k.coeff_count;
  coeffs = k.coeffs;
  lost_coeff = k.lost_coeff;
}

pub protect_shaped : (b : Board) (row : Row) (t : ℕ) (s : Set) → IsShaped b row
    → t < length b.targets → IsProtectSet s → IsShaped b (with_protect row t s)
protect_shaped b row t s k at' new = record {
  page_sets = k.page_sets;
  protect_sets = length_set row.protects t s ∙ k.protect_sets;
  pages = k.pages;
  protects = protect_sets_set b row t s k at' new;
  good = k.good;
  reg_count = k.reg_count;
  regs = k.regs;
  reg_range = k.reg_range;
  source_count =
      length_clear (is_protect_of t) row.sources ∙ k.source_count;
  sources =
      cleared b (is_protect_of t) row.sources refl k.sources;
  counter_count = k.counter_count;
  counters = k.counters;
  lost = k.lost;
  lost_range = k.lost_range;
  base = k.base;
  coeff_count = k.coeff_count;
  coeffs = k.coeffs;
  lost_coeff = k.lost_coeff;
}

pub touched_shaped : (b : Board) (row : Row) (t : ℕ) → IsShaped b row
    → IsShaped b (without_touched b row t)
touched_shaped b row t k = record {
  page_sets = k.page_sets;
  protect_sets = k.protect_sets;
  pages = k.pages;
  protects = k.protects;
  good = λ d h. k.good d (and_parts (row.good d) (not (is_touched b row t d))
      h).0;
  reg_count = k.reg_count;
  regs = k.regs;
  reg_range = k.reg_range;
  source_count =
      length_clear (is_status_of (is_touched b row t)) row.sources ∙ k.source_count;
  sources =
      cleared b (is_status_of (is_touched b row t)) row.sources refl k.sources;
  counter_count = k.counter_count;
  counters = k.counters;
  lost = k.lost;
  lost_range = k.lost_range;
  base = k.base;
  coeff_count = k.coeff_count;
  coeffs = k.coeffs;
  lost_coeff = k.lost_coeff;
}

-- registers of a row: their spans alone
abbrev pub IsRegSpan : Span → Type 0
IsRegSpan x = (x.lo ≤ x.hi) × (x.hi < 65536)

pub spans_shaped : (b : Board) (row : Row) (r : ℕ) (x : Span) → IsShaped b row → r < 8
    → IsRegSpan x → IsShaped b (reg_in row r x)
spans_shaped b row r x k lt new = record {
  page_sets = k.page_sets;
  protect_sets = k.protect_sets;
  pages = k.pages;
  protects = k.protects;
  good = k.good;
  reg_count = length_set row.regs r x ∙ k.reg_count;
  regs = λ q lq. (both q lq).0;
  reg_range = λ q lq. (both q lq).1;
  source_count = k.source_count;
  sources = k.sources;
  counter_count = k.counter_count;
  counters = k.counters;
  lost = k.lost;
  lost_range = k.lost_range;
  base = k.base;
  coeff_count = k.coeff_count;
  coeffs = k.coeffs;
  lost_coeff = k.lost_coeff;
}
  where
    both : (q : ℕ) → q < 8 → IsRegSpan (span_at (slice_set row.regs r x) q)
    both q lq = set_keeps row.regs r q x no_span IsRegSpan new (k.regs q lq, k.reg_range q lq)
        (let L : ℕ → Type 0 = λ n. r < n in subst L (sym k.reg_count) lt)

pub reg_shaped : (b : Board) (row : Row) (r : ℕ) (x : Span) (f : Source) → IsShaped b row → r < 8
    → IsRegSpan x → IsSource b f → IsShaped b (with_reg row r x f)
reg_shaped b row r x f k lt new origin =
    let h = spans_shaped b row r x k lt new in
    record {
      page_sets = h.page_sets;
      protect_sets = h.protect_sets;
      pages = h.pages;
      protects = h.protects;
      good = h.good;
      reg_count = h.reg_count;
      regs = h.regs;
      reg_range = h.reg_range;
      source_count =
          length_set row.sources r f ∙ k.source_count;
      sources = λ q lq. set_keeps row.sources r q f source.None (λ z. IsSource b z) origin
          (k.sources q lq) (let L : ℕ → Type 0 = λ n. r < n in subst L (sym k.source_count) lt);
      counter_count = h.counter_count;
      counters = h.counters;
      lost = h.lost;
      lost_range = h.lost_range;
      base = h.base;
      coeff_count = h.coeff_count;
      coeffs = h.coeffs;
      lost_coeff = h.lost_coeff;
    }

abbrev pub IsCounterSpan : Span → Type 0
IsCounterSpan x = (x.lo ≤ x.hi) × (x.hi ≤ 1000)

pub counter_shaped : (b : Board) (row : Row) (c : ℕ) (x : Span) (n : ℕ) (ks : List ℕ)
    → IsShaped b row → c < 4
    → IsCounterSpan x → IsShaped b (record row {
      counters = slice_set row.counters c x;
      base = n;
      coeffs = ks;
    })
counter_shaped b row c x n ks k lt new = record {
  page_sets = k.page_sets;
  protect_sets = k.protect_sets;
  pages = k.pages;
  protects = k.protects;
  good = k.good;
  reg_count = k.reg_count;
  regs = k.regs;
  reg_range = k.reg_range;
  source_count = k.source_count;
  sources = k.sources;
  counter_count = length_set row.counters c x ∙ k.counter_count;
  counters = λ q lq. set_keeps row.counters c q x no_span IsCounterSpan new (k.counters q lq)
      (let L : ℕ → Type 0 = λ m. c < m in subst L (sym k.counter_count) lt);
  lost = k.lost;
  lost_range = k.lost_range;
  base = k.base;
  coeff_count = k.coeff_count;
  coeffs = k.coeffs;
  lost_coeff = k.lost_coeff;
}

pub good_shaped : (b : Board) (row : Row) (s : Source) (shows : Bool) → IsShaped b row
    → IsSource b s → IsShaped b (learn_good row s shows)
good_shaped b row source.None shows k there = k
good_shaped b row (source.Page t) shows k there = k
good_shaped b row (source.Protect t) shows k there = k
good_shaped b row (source.Status d) false k there = k
good_shaped b row (source.Status d) true k there = record {
  page_sets = k.page_sets;
  protect_sets = k.protect_sets;
  pages = k.pages;
  protects = k.protects;
  good = λ x h. go x (or_cases (row.good x) (x == d) h);
  reg_count = k.reg_count;
  regs = k.regs;
  reg_range = k.reg_range;
  source_count = k.source_count;
  sources = k.sources;
  counter_count = k.counter_count;
  counters = k.counters;
  lost = k.lost;
  lost_range = k.lost_range;
  base = k.base;
  coeff_count = k.coeff_count;
  coeffs = k.coeffs;
  lost_coeff = k.lost_coeff;
}
  where
    go : (x : ℕ) → (row.good x ≡ true) ⊎ ((x == d) ≡ true) → x < length b.rails
    go x (inl e) = k.good x e
    go x (inr e) = let P : ℕ → Type 0 = λ z. z < length b.rails in
        subst P (sym (eqb-true x d e)) there
