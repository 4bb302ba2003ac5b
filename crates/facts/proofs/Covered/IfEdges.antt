-- The edges of `if`: those of a row that covers another cover the other's.
use Rattle.std.proofs.Common.{◌≡◌, ℕ, ◌<◌, ◌⊎◌, List, length, refl, ap, sym, ◌∙◌, subst, inl, inr}
use Rattle.std.proofs.Common.{arith}
use Rattle.std.proofs.Common.{Bool, true, false}
use Rattle.std.proofs.lemmas.Bool.{and_parts, or_left, cases_eq}
use Rattle.std.proofs.lemmas.List.{get_or-set_same, get_or-set_other}
use Rattle.std.specs.Prelude.{slice_set, ◌==◌}
use Rattle.board.specs.Boards.{Board}
use Rattle.facts.specs.declared.domain.source.Source.{Source}
use Rattle.facts.specs.declared.domain.source.Source.TheVariants as source
use Rattle.facts.specs.domain.Sets.{Set, empty, keeps}
use Rattle.facts.specs.domain.Rows.{Row, set_at, source_at, SetCovers, SourceCovers, RowCovers}
use Rattle.facts.specs.domain.Rows.{IsSource}
use Rattle.facts.specs.transfer.Edges.{Edge, possible, is_possible, keep, learn_good}
use Rattle.facts.specs.FactLaws.{IsShaped, Wider}
use Rattle.facts.proofs.Covered.Follows.{OwnEdgesCover}
use Rattle.facts.proofs.Covered.Covers.{covers_self, covers_trans, SpansCover-refl}
use Rattle.facts.proofs.Covered.RowMoves.{or_covers, keep_covers}
use Rattle.facts.proofs.Covered.SetBounds.{has_any_covers}
use Rattle.facts.proofs.Covered.Follows.{has_possible, possible_has}

set_under : (ss : List Set) (t : ℕ) (x : Set) → t < length ss → SetCovers (set_at ss t) x
    → (v : ℕ) → SetCovers (set_at ss v) (set_at (slice_set ss t x) v)
set_under ss t x lt c v = go (cases_eq v t)
  where
    go : (v ≡ t) ⊎ (v ≡ t → ⊥) → SetCovers (set_at ss v) (set_at (slice_set ss t x) v)
    go (inl e) w h =
        let there : set_at (slice_set ss t x) v ≡ x =
        ap (set_at (slice_set ss t x)) e ∙ get_or-set_same ss t x empty lt in
        ap (λ n. set_at ss n w) e ∙ c w (sym (ap (λ (z : Set). z w) there) ∙ h)
    go (inr ne) w h = sym (ap (λ (z : Set). z w) (get_or-set_other ss t v x empty ne)) ∙ h

-- a row covers what it keeps
keep_under : (b : Board) (u : Row) (g : Source) (p : ℕ → Bool) → IsShaped b u → IsSource b g
    → RowCovers b u (keep u g p)
keep_under b u source.None p k there = covers_self b u
keep_under b u (source.Status d) p k there = covers_self b u
keep_under b u (source.Page t) p k there = record {
  pages = λ v at'. set_under u.pages t (keeps (set_at u.pages t) p)
      (let L : ℕ → Type 0 = λ n. t < n in subst L (sym k.page_sets) there)
      (λ w h. (and_parts (set_at u.pages t w) (p w) h).0) v;
  protects = λ v at' w h. h;
  good = λ d h. h;
  regs = SpansCover-refl u.regs;
  sources = λ r. inr refl;
  counters = SpansCover-refl u.counters;
  lost = (omega arith, omega arith);
}
keep_under b u (source.Protect t) p k there = record {
  pages = λ v at' w h. h;
  protects = λ v at'. set_under u.protects t (keeps (set_at u.protects t) p)
      (let L : ℕ → Type 0 = λ n. t < n in subst L (sym k.protect_sets) there)
      (λ w h. (and_parts (set_at u.protects t w) (p w) h).0) v;
  good = λ d h. h;
  regs = SpansCover-refl u.regs;
  sources = λ r. inr refl;
  counters = SpansCover-refl u.counters;
  lost = (omega arith, omega arith);
}

learn_under : (b : Board) (u : Row) (g : Source) (shows : Bool)
    → RowCovers b u (learn_good u g shows)
learn_under b u source.None shows = covers_self b u
learn_under b u (source.Page t) shows = covers_self b u
learn_under b u (source.Protect t) shows = covers_self b u
learn_under b u (source.Status d) false = covers_self b u
learn_under b u (source.Status d) true = record {
  pages = λ t at' v h. h;
  protects = λ t at' v h. h;
  good = λ x h. or_left (u.good x) (x == d) h;
  regs = SpansCover-refl u.regs;
  sources = λ r. inr refl;
  counters = SpansCover-refl u.counters;
  lost = (omega arith, omega arith);
}

learn_covers : (b : Board) (s u : Row) (g : Source) (shows : Bool) → RowCovers b s u
    → RowCovers b (learn_good s g shows) (learn_good u g shows)
learn_covers b s u source.None shows c = c
learn_covers b s u (source.Page t) shows c = c
learn_covers b s u (source.Protect t) shows c = c
learn_covers b s u (source.Status d) false c = c
learn_covers b s u (source.Status d) true c = record {
  pages = c.pages;
  protects = c.protects;
  good = or_covers u.good s.good d c.good;
  regs = c.regs;
  sources = c.sources;
  counters = c.counters;
  lost = c.lost;
}

-- what is known more from a source, where the first row has the same source or none
abbrev pub informed : Row → Source → (ℕ → Bool) → Bool → Row
informed row g p shows = learn_good (keep row g p) g shows

pub informed_covers : (b : Board) (s u : Row) (f g : Source) (p : ℕ → Bool) (shows : Bool)
    → Wider b s u → IsSource b g → SourceCovers f g
    → RowCovers b (informed s f p shows) (informed u g p shows)
informed_covers b s u f g p shows k there (inl e) =
    let P : Source → Type 0 = λ z. RowCovers b (informed s z p shows) (informed u g p shows) in
    subst P (sym e) (covers_trans b s u (informed u g p shows) k.covers
    (covers_trans b u (keep u g p) (informed u g p shows) (keep_under b u g p k.right there)
    (learn_under b (keep u g p) g shows)))
informed_covers b s u f g p shows k there (inr e) =
    let P : Source → Type 0 = λ z. RowCovers b (informed s z p shows) (informed u g p shows) in
    let Q : Source → Type 0 = λ z. IsSource b z in
    subst P (sym e) (learn_covers b (keep s g p) (keep u g p) g shows
    (keep_covers b s u g g p k (λ t same. subst Q same there) (λ t same. subst Q same there)
    refl))

-- the same, without a report
pub kept_covers : (b : Board) (s u : Row) (f g : Source) (p : ℕ → Bool) → Wider b s u
    → IsSource b g → SourceCovers f g → RowCovers b (keep s f p) (keep u g p)
kept_covers b s u f g p k there (inl e) =
    let P : Source → Type 0 = λ z. RowCovers b (keep s z p) (keep u g p) in
    subst P (sym e) (covers_trans b s u (keep u g p) k.covers (keep_under b u g p k.right there))
kept_covers b s u f g p k there (inr e) =
    let P : Source → Type 0 = λ z. RowCovers b (keep s z p) (keep u g p) in
    let Q : Source → Type 0 = λ z. IsSource b z in
    subst P (sym e) (keep_covers b s u g g p k (λ t same. subst Q same there)
    (λ t same. subst Q same there) refl)

-- where the second row's source has a value left, so has the first's
is_possible_covers : (b : Board) (y x : Row) (f g : Source) → IsSource b g → SourceCovers f g
    → RowCovers b y x → is_possible x g ≡ true → is_possible y f ≡ true
is_possible_covers b y x f g there (inl e) c h = ap (is_possible y) e
is_possible_covers b y x f g there (inr e) c h = ap (is_possible y) e ∙ go g there h
  where
    go : (g : Source) → IsSource b g → is_possible x g ≡ true → is_possible y g ≡ true
    go source.None there h = refl
    go (source.Status d) there h = refl
    go (source.Page t) there h = has_any_covers (set_at y.pages t) (set_at x.pages t)
        (c.pages t there) h
    go (source.Protect t) there h = has_any_covers (set_at y.protects t) (set_at x.protects t)
        (c.protects t there) h

pub follows_possible : (b : Board) (s u : Row) (r : ℕ) (es fs : List Edge)
    → IsSource b (source_at u.sources r) → RowCovers b s u → OwnEdgesCover b es fs
    → OwnEdgesCover b (possible s r es) (possible u r fs)
follows_possible b s u r es fs there c k x h =
    let p = has_possible u r fs x h in
    let y = k x p.0 in (
      y.0,
      possible_has s r es y.0 y.1 (is_possible_covers b (Edge.row y.0) x.row
          (source_at s.sources r) (source_at u.sources r) there (c.sources r) y.3 p.1),
      y.2,
      y.3,
    )
