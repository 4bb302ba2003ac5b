-- What a step leaves as it was, and what a row then still knows.
use Rattle.std.proofs.Common.{◌≡◌, ℕ, ◌<◌, ◌⊎◌, List, length, refl, ap, sym, ◌∙◌, subst, inl, inr}
use Rattle.std.proofs.Common.{arith, Bool, true, false, not}
use Rattle.std.proofs.lemmas.Bool.{ne_eqb, and_parts, cases_eq, cond_both, not-true}
use Rattle.std.proofs.lemmas.List.{get_or-set_same, get_or-set_other}
use Rattle.std.specs.Prelude.{slice_index, slice_set}
use Rattle.board.specs.Boards.{Board}
use Rattle.targets.specs.States.{BusState}
use Rattle.simulator.specs.Machines.{Machine, Entry}
use Rattle.simulator.specs.Reports.{LastReport, IsReportedGood}
use Rattle.facts.specs.declared.domain.source.Source.{Source}
use Rattle.facts.specs.declared.domain.source.Source.TheVariants as source
use Rattle.facts.specs.declared.domain.span.Span.{Span}
use Rattle.facts.specs.domain.Sets.{Set, only, empty}
use Rattle.facts.specs.domain.Rows.{Row, Admits, IsRow, IsFrom, InSpan, InSpans, set_at, source_at}
use Rattle.facts.specs.domain.Rows.{RowCovers, SourceCovers}
use Rattle.facts.specs.duties.Duties.{is_touched}
use Rattle.facts.specs.transfer.Edges.{with_page, with_protect, without_touched, with_reg, clear}
use Rattle.facts.specs.transfer.Edges.{forget}
use Rattle.facts.specs.transfer.Edges.{is_page_of, is_protect_of, is_status_of}
use Rattle.facts.proofs.Shared.Lists.{source-clear, InSpans-set, InSpans-wider, InSpans-length}

-- the stored pages that may change, the protections, and the rails whose last report may, while no
-- arbitration is lost
pub record Change (b : Board) (m : Machine) (h : List Entry) (m' : Machine) (h' : List Entry)
    (P W D : Set) : Type 0 where
  pub pages : (u : ℕ) → u < length b.targets → P u ≡ false
      → slice_index m'.bus.page u ≡ slice_index m.bus.page u
  pub protects : (u : ℕ) → u < length b.targets → W u ≡ false
      → slice_index m'.bus.protect u ≡ slice_index m.bus.protect u
  pub reports : (d w : ℕ) → d < length b.rails → D d ≡ false → LastReport b h d w
      → LastReport b h' d w
  pub lost : m'.bus.lost ≡ m.bus.lost

-- a source that isn't forgotten still has the register's value
pub source_kept : (b : Board) (m : Machine) (h : List Entry) (m' : Machine) (h' : List Entry)
    (P W D : Set)
    → Change b m h m' h' P W D
    → (p : Source → Bool) → ((u : ℕ) → p (source.Page u) ≡ P u)
    → ((u : ℕ) → p (source.Protect u) ≡ W u)
    → ((d : ℕ) → p (source.Status d) ≡ D d)
    → (s : Source) (x : ℕ) → IsFrom b m h s x → IsFrom b m' h' (forget p s) x
source_kept b m h m' h' P W D c p pe we de source.None x f =
    cond_both (p source.None) source.None source.None (λ s. IsFrom b m' h' s x) (λ _. tt) (λ _. tt)
source_kept b m h m' h' P W D c p pe we de (source.Status d) x f =
    cond_both (p (source.Status d)) source.None (source.Status d) (λ s. IsFrom b m' h' s x)
    (λ _. tt)
    (λ outside. (f.0, c.reports d x f.0 (sym (de d) ∙ outside) f.1))
source_kept b m h m' h' P W D c p pe we de (source.Page u) x f =
    cond_both (p (source.Page u)) source.None (source.Page u) (λ s. IsFrom b m' h' s x) (λ _. tt)
    (λ outside. (f.0, f.1 ∙ sym (c.pages u f.0 (sym (pe u) ∙ outside))))
source_kept b m h m' h' P W D c p pe we de (source.Protect u) x f =
    cond_both (p (source.Protect u)) source.None (source.Protect u) (λ s. IsFrom b m' h' s x)
    (λ _. tt)
    (λ outside. (f.0, f.1 ∙ sym (c.protects u f.0 (sym (we u) ∙ outside))))

-- all sources, with the same registers
pub sources_kept : (b : Board) (row : Row) (m : Machine) (h : List Entry) (m' : Machine)
    (h' : List Entry)
    (P W D : Set) → Change b m h m' h' P W D
    → (p : Source → Bool) → p source.None ≡ false → ((u : ℕ) → p (source.Page u) ≡ P u)
    → ((u : ℕ) → p (source.Protect u) ≡ W u) → ((d : ℕ) → p (source.Status d) ≡ D d)
    → Admits b row m h → m'.regs ≡ m.regs
    → (r : ℕ) → r < length m'.regs → IsFrom b m' h' (source_at (clear p row.sources) r)
    (slice_index m'.regs r)
sources_kept b row m h m' h' P W D c p outside pe we de k same r lt =
    let inside : r < length m.regs = let L : List ℕ → Type 0 = λ l. r < length l in
    subst L same lt in
    let f =
    source_kept b m h m' h' P W D c p pe we de (source_at row.sources r) (slice_index m.regs r)
    (k.sources r inside) in
    let Q : Source → Type 0 = λ s. IsFrom b m' h' s (slice_index m'.regs r) in
    let R : ℕ → Type 0 = λ x. IsFrom b m' h' (forget p (source_at row.sources r)) x in
    subst Q (sym (source-clear p row.sources r outside))
    (subst R (ap (λ l. slice_index l r) (sym same)) f)

-- reports stay good where the rail isn't among those that may change
pub good_kept : (b : Board) (m : Machine) (h : List Entry) (m' : Machine) (h' : List Entry)
    (P W D : Set)
    → Change b m h m' h' P W D
    → (d : ℕ) → d < length b.rails → D d ≡ false → IsReportedGood b h d → IsReportedGood b h' d
good_kept b m h m' h' P W D c d at' outside g = record
    { word = g.word; last = c.reports d g.word at' outside g.last; good = g.good }

-- a set of pages after an update at one target
pub set-updated : (b : Board) (ss : List Set) (t : ℕ) (s : Set) (f g : ℕ → ℕ) → t < length ss
    → s (g t) ≡ true
    → ((u : ℕ) → u < length b.targets → set_at ss u (f u) ≡ true)
    → ((u : ℕ) → u < length b.targets → only t u ≡ false → g u ≡ f u)
    → (u : ℕ) → u < length b.targets → set_at (slice_set ss t s) u (g u) ≡ true
set-updated b ss t s f g lt new old same u there = go (cases_eq u t)
  where
    go : (u ≡ t) ⊎ (u ≡ t → ⊥) → set_at (slice_set ss t s) u (g u) ≡ true
    go (inl e) =
        let Q : ℕ → Type 0 = λ x. set_at (slice_set ss t s) x (g x) ≡ true in
        subst Q (sym e) (ap (λ (r : Set). r (g t)) (get_or-set_same ss t s empty lt) ∙ new)
    go (inr ne) =
        ap (λ (r : Set). r (g u)) (get_or-set_other ss t u s empty ne)
        ∙ (ap (set_at ss u) (same u there (ne_eqb u t ne)) ∙ old u there)

pub set-same : (b : Board) (ss : List Set) (f g : ℕ → ℕ)
    → ((u : ℕ) → u < length b.targets → set_at ss u (f u) ≡ true)
    → ((u : ℕ) → u < length b.targets → g u ≡ f u)
    → (u : ℕ) → u < length b.targets → set_at ss u (g u) ≡ true
set-same b ss f g old same u there = ap (set_at ss u) (same u there) ∙ old u there

lost_same : (s : Span) (x y : ℕ) → y ≡ x → InSpan s x → InSpan s y
lost_same s x y e k = let P : ℕ → Type 0 = λ n. InSpan s n in subst P (sym e) k

spans_same : (ss : List Span) (xs ys : List ℕ) → ys ≡ xs → InSpans ss xs → InSpans ss ys
spans_same ss xs ys e k = let P : List ℕ → Type 0 = λ l. InSpans ss l in subst P (sym e) k

-- the page of one target changes into a set
pub admits_page : (b : Board) (row : Row) (m : Machine) (h : List Entry) (m' : Machine)
    (h' : List Entry)
    (t : ℕ) (s : Set)
    → IsRow b row → t < length b.targets → Admits b row m h
    → Change b m h m' h' (only t) empty empty
    → s (slice_index m'.bus.page t) ≡ true → m'.regs ≡ m.regs → m'.counters ≡ m.counters
    → Admits b (with_page row t s) m' h'
admits_page b row m h m' h' t s shaped there k c inside regs counters = record {
  pages = set-updated b row.pages t s (slice_index m.bus.page) (slice_index m'.bus.page)
      (let L : ℕ → Type 0 = λ n. t < n in subst L (sym shaped.page_sets) there) inside k.pages
      c.pages;
  protects =
      set-same b row.protects (slice_index m.bus.protect) (slice_index m'.bus.protect) k.protects
      (λ u at'. c.protects u at' refl);
  regs = spans_same row.regs m.regs m'.regs regs k.regs;
  sources =
      sources_kept b row m h m' h' (only t) empty empty c (is_page_of t) refl (λ u. refl)
      (λ u. refl)
      (λ d. refl) k regs;
  counters = spans_same row.counters m.counters m'.counters counters k.counters;
  lost = lost_same row.lost m.bus.lost m'.bus.lost c.lost k.lost;
  good = λ d at' g. good_kept b m h m' h' (only t) empty empty c d at' refl (k.good d at' g);
}

pub admits_protect : (b : Board) (row : Row) (m : Machine) (h : List Entry) (m' : Machine)
    (h' : List Entry)
    (t : ℕ) (s : Set)
    → IsRow b row → t < length b.targets → Admits b row m h
    → Change b m h m' h' empty (only t) empty
    → s (slice_index m'.bus.protect t) ≡ true → m'.regs ≡ m.regs → m'.counters ≡ m.counters
    → Admits b (with_protect row t s) m' h'
admits_protect b row m h m' h' t s shaped there k c inside regs counters = record {
  pages = set-same b row.pages (slice_index m.bus.page) (slice_index m'.bus.page) k.pages
      (λ u at'. c.pages u at' refl);
  protects = set-updated b row.protects t s (slice_index m.bus.protect) (slice_index m'.bus.protect)
      (let L : ℕ → Type 0 = λ n. t < n in subst L (sym shaped.protect_sets) there) inside k.protects
      c.protects;
  regs = spans_same row.regs m.regs m'.regs regs k.regs;
  sources = sources_kept b row m h m' h' empty (only t) empty c (is_protect_of t) refl (λ u. refl)
      (λ u. refl) (λ d. refl) k regs;
  counters = spans_same row.counters m.counters m'.counters counters k.counters;
  lost = lost_same row.lost m.bus.lost m'.bus.lost c.lost k.lost;
  good = λ d at' g. good_kept b m h m' h' empty (only t) empty c d at' refl (k.good d at' g);
}

-- the touched rails may have lost their last report
pub admits_touched : (b : Board) (row : Row) (m : Machine) (h : List Entry) (m' : Machine)
    (h' : List Entry)
    (t : ℕ)
    → Admits b row m h → Change b m h m' h' empty empty (is_touched b row t) → m'.regs ≡ m.regs
    → m'.counters ≡ m.counters
    → Admits b (without_touched b row t) m' h'
admits_touched b row m h m' h' t k c regs counters = record {
  pages = set-same b row.pages (slice_index m.bus.page) (slice_index m'.bus.page) k.pages
      (λ u at'. c.pages u at' refl);
  protects =
      set-same b row.protects (slice_index m.bus.protect) (slice_index m'.bus.protect) k.protects
      (λ u at'. c.protects u at' refl);
  regs = spans_same row.regs m.regs m'.regs regs k.regs;
  sources = sources_kept b row m h m' h' empty empty (is_touched b row t) c
      (is_status_of (is_touched b row t)) refl (λ u. refl) (λ u. refl) (λ d. refl) k regs;
  counters = spans_same row.counters m.counters m'.counters counters k.counters;
  lost = lost_same row.lost m.bus.lost m'.bus.lost c.lost k.lost;
  good = λ d at' g.
      let parts = and_parts (row.good d) (not (is_touched b row t d)) g in
      good_kept b m h m' h' empty empty (is_touched b row t) c d at'
      (not-true (is_touched b row t d) parts.1) (k.good d at' parts.0);
}

-- nothing changes that the row speaks of
pub admits_same : (b : Board) (row : Row) (m : Machine) (h : List Entry) (m' : Machine)
    (h' : List Entry)
    → Admits b row m h → Change b m h m' h' empty empty empty → m'.regs ≡ m.regs
    → m'.counters ≡ m.counters
    → Admits b row m' h'
admits_same b row m h m' h' k c regs counters = record {
  pages = set-same b row.pages (slice_index m.bus.page) (slice_index m'.bus.page) k.pages
      (λ u at'. c.pages u at' refl);
  protects =
      set-same b row.protects (slice_index m.bus.protect) (slice_index m'.bus.protect) k.protects
      (λ u at'. c.protects u at' refl);
  regs = spans_same row.regs m.regs m'.regs regs k.regs;
  sources = λ r lt.
      let inside : r < length m.regs = let L : List ℕ → Type 0 = λ l. r < length l in
      subst L regs lt in
      let f =
      source_kept b m h m' h' empty empty empty c (λ _. false) (λ u. refl) (λ u. refl) (λ d. refl)
      (source_at row.sources r) (slice_index m.regs r) (k.sources r inside) in
      let R : ℕ → Type 0 = λ x. IsFrom b m' h' (source_at row.sources r) x in
      subst R (ap (λ l. slice_index l r) (sym regs)) f;
  counters = spans_same row.counters m.counters m'.counters counters k.counters;
  lost = lost_same row.lost m.bus.lost m'.bus.lost c.lost k.lost;
  good = λ d at' g. good_kept b m h m' h' empty empty empty c d at' refl (k.good d at' g);
}

-- a register gets a value of this span and from_what
pub admits_reg : (b : Board) (row : Row) (m m' : Machine) (h : List Entry) (r : ℕ) (s : Span)
    (from_what : Source) (x : ℕ)
    → length row.regs ≡ 8 → length row.sources ≡ 8 → Admits b row m h → r < 8 → InSpan s x
    → IsFrom b m' h from_what x
    → m'.bus ≡ m.bus → m'.counters ≡ m.counters → m'.regs ≡ slice_set m.regs r x
    → Admits b (with_reg row r s from_what) m' h
admits_reg b row m m' h r s from_what x reg_count source_count k lt inside from bus counters regs =
    record {
      pages = λ u at'.
          ap (λ (y : BusState). set_at row.pages u (slice_index y.page u)) bus ∙ k.pages u at';
      protects = λ u at'. ap (λ (y : BusState). set_at row.protects u (slice_index y.protect u)) bus
          ∙ k.protects u at';
      regs = spans_same (slice_set row.regs r s) (slice_set m.regs r x) m'.regs regs
          (InSpans-set row.regs m.regs r s x k.regs inside);
      sources = λ q lq. at_source q (cases_eq q r) lq;
      counters = spans_same row.counters m.counters m'.counters counters k.counters;
      lost = lost_same row.lost m.bus.lost m'.bus.lost (ap (λ (y : BusState). y.lost) bus) k.lost;
      good = k.good;
    }
  where
    wide : length m.regs ≡ 8
    wide = sym (InSpans-length row.regs m.regs k.regs) ∙ reg_count

    moved : (q : ℕ) (z : Source) (y : ℕ) → IsFrom b m h z y → IsFrom b m' h z y
    moved q source.None y f = tt
    moved q (source.Status d) y f = f
    moved q (source.Page u) y f = (f.0, f.1 ∙ ap (λ (z : BusState). slice_index z.page u) (sym bus))
    moved q (source.Protect u) y f =
        (f.0, f.1 ∙ ap (λ (z : BusState). slice_index z.protect u) (sym bus))

    at_source : (q : ℕ) → (q ≡ r) ⊎ (q ≡ r → ⊥) → q < length m'.regs
        → IsFrom b m' h (source_at (slice_set row.sources r from_what) q) (slice_index m'.regs q)
    at_source q (inl e) lq =
        let Q : ℕ → Type 0 = λ i. IsFrom b m' h (source_at (slice_set row.sources r from_what) i)
        (slice_index m'.regs i) in
        let R : Source → Type 0 = λ z. IsFrom b m' h z (slice_index m'.regs r) in
        let V : ℕ → Type 0 = λ y. IsFrom b m' h from_what y in
        subst Q (sym e) (subst R (sym (get_or-set_same row.sources r from_what source.None
        (omega (arith, source_count))))
        (subst V
        (sym (ap (λ l. slice_index l r) regs ∙ get_or-set_same m.regs r x 0 (omega (arith, wide))))
        from))
    at_source q (inr ne) lq =
        let R : Source → Type 0 = λ z. IsFrom b m' h z (slice_index m'.regs q) in
        let V : ℕ → Type 0 = λ y. IsFrom b m' h (source_at row.sources q) y in
        let inside : q < length m.regs =
        (let L : List ℕ → Type 0 = λ l. q < length l in let k : q < length
        (slice_set m.regs r x) = subst L regs lq in
        omega (arith, Rattle.std.proofs.Math.ListN.length-set m.regs r x)) in
        subst R (sym (get_or-set_other row.sources r q from_what source.None ne))
        (subst V (sym (ap (λ l. slice_index l q) regs ∙ get_or-set_other m.regs r q x 0 ne))
        (moved q (source_at row.sources q) (slice_index m.regs q) (k.sources q inside)))

-- a covering row admits what the covered one does
pub covers_admits : (b : Board) (s u : Row) (m : Machine) (h : List Entry) → RowCovers b s u
    → Admits b u m h → Admits b s m h
covers_admits b s u m h c k = record {
  pages = λ t at'. c.pages t at' (slice_index m.bus.page t) (k.pages t at');
  protects = λ t at'. c.protects t at' (slice_index m.bus.protect t) (k.protects t at');
  regs = InSpans-wider s.regs u.regs m.regs c.regs k.regs;
  sources = λ r lt. from r (c.sources r) (k.sources r lt);
  counters = InSpans-wider s.counters u.counters m.counters c.counters k.counters;
  lost = (omega (arith, c.lost.0, k.lost.0), omega (arith, c.lost.1, k.lost.1));
  good = λ d at' g. k.good d at' (c.good d g);
}
  where
    from : (r : ℕ) → SourceCovers (source_at s.sources r) (source_at u.sources r)
        → IsFrom b m h (source_at u.sources r) (slice_index m.regs r)
        → IsFrom b m h (source_at s.sources r) (slice_index m.regs r)
    from r (inl e) f = let P : Source → Type 0 = λ z. IsFrom b m h z (slice_index m.regs r) in
        subst P (sym e) tt
    from r (inr e) f = let P : Source → Type 0 = λ z. IsFrom b m h z (slice_index m.regs r) in
        subst P (sym e) f
