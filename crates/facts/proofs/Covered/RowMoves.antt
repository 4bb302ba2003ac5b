-- Rows that cover stay so through what an instruction does to a row.
use Rattle.std.proofs.Common.{◌≡◌, ℕ, ◌<◌, ◌⊎◌, length, refl, sym, ◌∙◌, subst, inl, inr, Bool}
use Rattle.std.proofs.Common.{true, false, not, ◌||◌}
use Rattle.std.proofs.lemmas.Bool.{and_parts, and_from, or_cases, or_left, or_right, cases_Bool}
use Rattle.std.proofs.lemmas.Bool.{not_from_false, not-true, false≢true}
use Rattle.std.specs.Prelude.{slice_set, slice_get, ◌==◌, Option, Some, None}
use Rattle.board.specs.Boards.{Rail, Board}
use Rattle.facts.specs.declared.domain.source.Source.{Source}
use Rattle.facts.specs.declared.domain.source.Source.TheVariants as source
use Rattle.facts.specs.declared.domain.span.Span.{Span}
use Rattle.facts.specs.domain.Sets.{Set, gains, keeps}
use Rattle.pmbus_table.specs.Codes.{all_pages}
use Rattle.facts.specs.domain.Rows.{Row, set_at, SetCovers, SpanCovers, SourceCovers, RowCovers}
use Rattle.facts.specs.duties.Duties.{is_touched, touches_some, may_select}
use Rattle.facts.specs.transfer.Edges.{with_page, with_protect, without_touched, with_reg}
use Rattle.facts.specs.transfer.Edges.{is_page_of}
use Rattle.facts.specs.transfer.Edges.{is_protect_of, is_status_of, keep}
use Rattle.facts.specs.FactLaws.{IsShaped, Wider}
use Rattle.facts.proofs.Covered.Covers.{SpansCover-set, sets_set, sources_set, clear_covers}

pub or_covers : (s u : Set) (v : ℕ) → SetCovers s u → SetCovers (gains s v) (gains u v)
or_covers s u v c x h = go (or_cases (u x) (x == v) h)
  where
    go : (u x ≡ true) ⊎ ((x == v) ≡ true) → (s x || x == v) ≡ true
    go (inl e) = or_left (s x) (x == v) (c x e)
    go (inr e) = or_right (s x) (x == v) e

pub and_covers : (s u p : Set) → SetCovers s u → SetCovers (keeps s p) (keeps u p)
and_covers s u p c x h = let k = and_parts (u x) (p x) h in and_from (s x) (p x) (c x k.0) k.1

in_left : (b : Board) (row : Row) (t : ℕ) → IsShaped b row → t < length b.targets
    → t < length row.pages
in_left b row t k at' = let L : ℕ → Type 0 = λ n. t < n in subst L (sym k.page_sets) at'

in_right : (b : Board) (row : Row) (t : ℕ) → IsShaped b row → t < length b.targets
    → t < length row.protects
in_right b row t k at' = let L : ℕ → Type 0 = λ n. t < n in subst L (sym k.protect_sets) at'

pub in_sources : (b : Board) (row : Row) (r : ℕ) → IsShaped b row → r < 8 → r < length row.sources
in_sources b row r k lt = let L : ℕ → Type 0 = λ n. r < n in subst L (sym k.source_count) lt

pub page_covers : (b : Board) (s u : Row) (t : ℕ) (x y : Set) → Wider b s u
    → t < length b.targets → SetCovers x y → RowCovers b (with_page s t x) (with_page u t y)
page_covers b s u t x y k at' new = record {
  pages = λ v there. sets_set s.pages u.pages t x y (in_left b s t k.left at')
      (in_left b u t k.right at') new v (k.covers.pages v there);
  protects = k.covers.protects;
  good = k.covers.good;
  regs = k.covers.regs;
  sources = clear_covers (is_page_of t) (is_page_of t) s.sources u.sources refl refl (λ z e. e)
      k.covers.sources;
  counters = k.covers.counters;
  lost = k.covers.lost;
}

pub protect_covers : (b : Board) (s u : Row) (t : ℕ) (x y : Set) → Wider b s u
    → t < length b.targets → SetCovers x y → RowCovers b (with_protect s t x) (with_protect u t y)
protect_covers b s u t x y k at' new = record {
  pages = k.covers.pages;
  protects = λ v there. sets_set s.protects u.protects t x y (in_right b s t k.left at')
      (in_right b u t k.right at') new v (k.covers.protects v there);
  good = k.covers.good;
  regs = k.covers.regs;
  sources = clear_covers (is_protect_of t) (is_protect_of t) s.sources u.sources refl refl
      (λ z e. e) k.covers.sources;
  counters = k.covers.counters;
  lost = k.covers.lost;
}

-- what the second row may touch, the first may too
pub touches_covers : (b : Board) (s u : Row) (i : ℕ) (o : Option Rail) → RowCovers b s u
    → i < length b.targets
    → touches_some u i o ≡ true → touches_some s i o ≡ true
touches_covers b s u i None k at' h = h
touches_covers b s u i (Some r) k at' h =
    let p = and_parts (r.target == i) (may_select (set_at u.pages i) r.page) h in
    and_from (r.target == i) (may_select (set_at s.pages i) r.page) p.0
    (go (or_cases (set_at u.pages i r.page) (set_at u.pages i all_pages) p.1))
  where
    go : (set_at u.pages i r.page ≡ true) ⊎ (set_at u.pages i all_pages ≡ true)
        → may_select (set_at s.pages i) r.page ≡ true
    go (inl e) = or_left _ _ (k.pages i at' r.page e)
    go (inr e) = or_right _ _ (k.pages i at' all_pages e)

pub touched_covers : (b : Board) (s u : Row) (t d : ℕ) → RowCovers b s u → t < length b.targets
    → is_touched b u t d ≡ true → is_touched b s t d ≡ true
touched_covers b s u t d k at' h = touches_covers b s u t (slice_get b.rails d) k at' h

status_wider : (p q : ℕ → Bool) → ((d : ℕ) → q d ≡ true → p d ≡ true) → (z : Source)
    → is_status_of q z ≡ true → is_status_of p z ≡ true
status_wider p q w source.None e = e
status_wider p q w (source.Status d) e = w d e
status_wider p q w (source.Page t) e = e
status_wider p q w (source.Protect t) e = e

pub touched_kept : (b : Board) (s u : Row) (t : ℕ) → Wider b s u → t < length b.targets
    → RowCovers b (without_touched b s t) (without_touched b u t)
touched_kept b s u t k at' = record {
  pages = k.covers.pages;
  protects = k.covers.protects;
  good = λ d h. let p = and_parts (s.good d) (not (is_touched b s t d)) h in
      and_from (u.good d) (not (is_touched b u t d)) (k.covers.good d p.0)
      (free d (not-true (is_touched b s t d) p.1) (cases_Bool (is_touched b u t d)));
  regs = k.covers.regs;
  sources = clear_covers (is_status_of (is_touched b s t)) (is_status_of (is_touched b u t))
      s.sources u.sources refl refl
      (status_wider (is_touched b s t) (is_touched b u t)
      (λ d. touched_covers b s u t d k.covers at')) k.covers.sources;
  counters = k.covers.counters;
  lost = k.covers.lost;
}
  where
    free : (d : ℕ) → is_touched b s t d ≡ false → (is_touched b u t d ≡ true)
        ⊎ (is_touched b u t d ≡ false) → not (is_touched b u t d) ≡ true
    free d n (inl e) = absurd (false≢true (sym n ∙ touched_covers b s u t d k.covers at' e))
    free d n (inr e) = not_from_false (is_touched b u t d) e

-- a register is written; the lists of sources are as long as the rows'
pub reg_covers : (b : Board) (s u : Row) (r : ℕ) (x y : Span) (f g : Source) → RowCovers b s u
    → r < length s.sources → r < length u.sources → SpanCovers x y → SourceCovers f g
    → RowCovers b (with_reg s r x f) (with_reg u r y g)
reg_covers b s u r x y f g k ls lu spans sources = record {
  pages = k.pages;
  protects = k.protects;
  good = k.good;
  regs = SpansCover-set s.regs u.regs r x y k.regs spans;
  sources = λ q. sources_set s.sources u.sources r f g ls lu sources q (k.sources q);
  counters = k.counters;
  lost = k.lost;
}

-- a test that one of the sources knows of
pub keep_covers : (b : Board) (s u : Row) (f g : Source) (p : ℕ → Bool) → Wider b s u
    → ((t : ℕ) → f ≡ source.Page t → t < length b.targets)
    → ((t : ℕ) → f ≡ source.Protect t → t < length b.targets) → f ≡ g
    → RowCovers b (keep s f p) (keep u f p)
keep_covers b s u source.None g p k there there' e = k.covers
keep_covers b s u (source.Status d) g p k there there' e = k.covers
keep_covers b s u (source.Page t) g p k there there' e =
    let c = page_of t (there t refl) in record {
      pages = c;
      protects = k.covers.protects;
      good = k.covers.good;
      regs =
          k.covers.regs;
      sources = k.covers.sources;
      counters = k.covers.counters;
      lost = k.covers.lost;
    }
  where
    page_of : (t : ℕ) → t < length b.targets → (v : ℕ) → v < length b.targets
        → SetCovers (set_at (slice_set s.pages t (keeps (set_at s.pages t) p)) v)
        (set_at (slice_set u.pages t (keeps (set_at u.pages t) p)) v)
    page_of t at' v at'' = sets_set s.pages u.pages t (keeps (set_at s.pages t) p)
        (keeps (set_at u.pages t) p) (in_left b s t k.left at') (in_left b u t k.right at')
        (and_covers (set_at s.pages t) (set_at u.pages t) p (k.covers.pages t at')) v
        (k.covers.pages v at'')
keep_covers b s u (source.Protect t) g p k there there' e =
    let c = protect_of t (there' t refl) in record {
      pages = k.covers.pages;
      protects = c;
      good = k.covers.good;
      regs =
          k.covers.regs;
      sources = k.covers.sources;
      counters = k.covers.counters;
      lost = k.covers.lost;
    }
  where
    protect_of : (t : ℕ) → t < length b.targets → (v : ℕ) → v < length b.targets
        → SetCovers (set_at (slice_set s.protects t (keeps (set_at s.protects t) p)) v)
        (set_at (slice_set u.protects t (keeps (set_at u.protects t) p)) v)
    protect_of t at' v at'' = sets_set s.protects u.protects t (keeps (set_at s.protects t) p)
        (keeps (set_at u.protects t) p) (in_right b s t k.left at') (in_right b u t k.right at')
        (and_covers (set_at s.protects t) (set_at u.protects t) p (k.covers.protects t at')) v
        (k.covers.protects v at'')
