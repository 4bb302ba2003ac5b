-- The join of two rows of a board is the least row that covers both, and one of the board.
use Rattle.std.proofs.Common.{◌≡◌, ◌<◌, ◌≤◌, ◌⊎◌, inl, inr, ℕ, zero, suc, List, [], ◌∷◌, length}
use Rattle.std.proofs.Common.{map}
use Rattle.std.proofs.Common.{IsTrue, bit_or, bit_and, refl, ap, sym, subst, ◌∙◌, arith}
use Rattle.std.specs.Prelude.{Vec, slice_get, slice_index, slice_index_or, replicate, Some}
use Rattle.std.proofs.lemmas.Bool.{false≢true}
use Rattle.std.proofs.lemmas.List.{length-map}
use Rattle.pmbus_table.specs.Protect.{is_protection}
use Rattle.board.specs.Boards.{Board, Target}
use Rattle.board.specs.Valid.{is_page_value}
use Rattle.targets.specs.States.{IsTargetAt}
use Rattle.facts.specs.declared.domain.row.Row.{Row as CodeRow}
use Rattle.facts.specs.declared.domain.source.Source.{Source}
use Rattle.facts.specs.declared.domain.source.Source.TheVariants as source
use Rattle.facts.specs.declared.domain.span.Span.{Span}
use Rattle.facts.specs.domain.Covering.{CoversByPart, PagesCover, ProtectsCover}
use Rattle.facts.specs.FactLaws.{IsShaped}
use Rattle.facts.specs.domain.Rows.{Row, IsRow, IsSource, AllCover, SetCovers, SpanCovers}
use Rattle.facts.specs.domain.Rows.{SourceCovers, SpansCover, RowCovers, most_ticks, row_view}
use Rattle.facts.specs.domain.Rows.{set_at, source_at, span_at}
use Rattle.facts.specs.domain.Sets.{Set, empty, is_page, is_protect, is_rail, page_bit, pages_in}
use Rattle.facts.specs.domain.Sets.{protect_bit, protects_in, rails_in}
use Rattle.fact_search.specs.Searching.{IsJoined}
use Rattle.fact_search.proofs.Shared.Places.{found, within, some_same, none_some}
use Rattle.fact_search.proofs.Shared.Covers.{rows_cover, spans_from}
use Rattle.fact_search.proofs.Rows.Unions.{zipped, zipped_length, zipped_first, zipped_second}
use Rattle.fact_search.proofs.Rows.Unions.{union_first, union_second, within_either}
use Rattle.fact_search.proofs.Rows.Unions.{meet_first, meet_second, meet_both}

-- a list in another one's place, of the same length
abbrev with_list : {X Z : Type 0} (v : Vec X Z) (ws : List X) → length ws ≡ length v.items
    → Vec X Z
with_list v ws e = record {
  ptr = v.ptr;
  len = v.len;
  cap = v.cap;
  alloc = v.alloc;
  items = ws;
  ok = (v.ok.0 ∙ sym e, v.ok.1);
  small = v.small;
}

spans_to : (xs ys : List Span) → SpansCover xs ys → AllCover SpanCovers xs ys
spans_to [] [] c = tt
spans_to [] (y ∷ ys) c = absurd c
spans_to (x ∷ xs) [] c = absurd c
spans_to (x ∷ xs) (y ∷ ys) c = (c.0, spans_to xs ys c.1)

-- as many of the sources as another list has
abbrev as_many : List Source → List Source → List Source
as_many ws [] = []
as_many [] (s ∷ ss) = source.None ∷ as_many [] ss
as_many (w ∷ ws) (s ∷ ss) = w ∷ as_many ws ss

many_cover : (ws ls ss : List Source) → length ls ≡ length ss
    → ((r : ℕ) → SourceCovers (source_at ws r) (source_at ss r))
    → AllCover SourceCovers (as_many ws ls) ss
many_cover ws [] [] e c = tt
many_cover ws [] (s ∷ ss) e c = absurd (omega (arith, e))
many_cover ws (l ∷ ls) [] e c = absurd (omega (arith, e))
many_cover [] (l ∷ ls) (s ∷ ss) e c =
    (inl refl, many_cover [] ls ss (omega (arith, e)) (λ r. inl refl))
many_cover (w ∷ ws) (l ∷ ls) (s ∷ ss) e c =
    (c 0, many_cover ws ls ss (omega (arith, e)) (λ r. c (suc r)))

cover_many : (ws ls rs : List Source) → AllCover SourceCovers (as_many ws ls) rs
    → ((r : ℕ) → SourceCovers (source_at ws r) (source_at ls r)) → (r : ℕ)
    → SourceCovers (source_at ws r) (source_at rs r)
cover_many ws [] [] c k r = k r
cover_many ws [] (x ∷ rs) c k r = absurd c
cover_many [] (l ∷ ls) rs c k r = inl refl
cover_many (w ∷ ws) (l ∷ ls) [] c k r = absurd c
cover_many (w ∷ ws) (l ∷ ls) (x ∷ rs) c k zero = c.0
cover_many (w ∷ ws) (l ∷ ls) (x ∷ rs) c k (suc r) = cover_many ws ls rs c.1 (λ q. k (suc q)) r

-- lists of one length
pub record AreAlike (s u : CodeRow) : Type 0 where
  pub pages : length s.pages.items ≡ length u.pages.items
  pub protects : length s.protects.items ≡ length u.protects.items
  pub sources : length s.sources ≡ length u.sources

abbrev either : ℕ → ℕ → ℕ
either s u = bit_or s u

page_first : (s u : ℕ) → PagesCover (either s u) s
page_first s u = union_first is_page page_bit s u

page_second : (s u : ℕ) → PagesCover (either s u) u
page_second s u = union_second is_page page_bit s u

protect_first : (s u : ℕ) → ProtectsCover (either s u) s
protect_first s u = union_first is_protect protect_bit s u

protect_second : (s u : ℕ) → ProtectsCover (either s u) u
protect_second s u = union_second is_protect protect_bit s u

pub joins_least : (b : Board) (r s u : CodeRow) (w : Row) → AreAlike s u
    → ((x : CodeRow) → CoversByPart x s → CoversByPart x u → CoversByPart x r)
    → RowCovers b w (row_view s) → RowCovers b w (row_view u) → RowCovers b w (row_view r)
joins_least b r s u w alike least over other =
    by (least (record s {
      pages = with_list s.pages (zipped either s.pages.items u.pages.items)
          (zipped_length either s.pages.items u.pages.items alike.pages);
      protects = with_list s.protects (zipped either s.protects.items u.protects.items)
          (zipped_length either s.protects.items u.protects.items alike.protects);
      good = bit_and s.good u.good;
      regs = w.regs;
      sources = as_many w.sources s.sources;
      counters = w.counters;
      lost = w.lost;
    }) (
      zipped_first PagesCover either page_first s.pages.items u.pages.items alike.pages,
      zipped_first ProtectsCover either protect_first s.protects.items u.protects.items
          alike.protects,
      meet_first is_rail (λ d. d) s.good u.good,
      spans_to w.regs s.regs over.regs,
      many_cover w.sources s.sources s.sources refl over.sources,
      spans_to w.counters s.counters over.counters,
      over.lost,
    ) (
      zipped_second PagesCover either page_second s.pages.items u.pages.items alike.pages,
      zipped_second ProtectsCover either protect_second s.protects.items u.protects.items
          alike.protects,
      meet_second is_rail (λ d. d) s.good u.good,
      spans_to w.regs u.regs other.regs,
      many_cover w.sources s.sources u.sources alike.sources other.sources,
      spans_to w.counters u.counters other.counters,
      other.lost,
    ))
  where
    by : AllCover PagesCover (zipped either s.pages.items u.pages.items) r.pages.items
        × AllCover ProtectsCover (zipped either s.protects.items u.protects.items)
        r.protects.items
        × SetCovers (rails_in r.good) (rails_in (bit_and s.good u.good))
        × AllCover SpanCovers w.regs r.regs
        × AllCover SourceCovers (as_many w.sources s.sources) r.sources
        × AllCover SpanCovers w.counters r.counters
        × SpanCovers w.lost r.lost → RowCovers b w (row_view r)
    by c = record {
      pages = λ i lt v t.
          of_either (set_at (row_view s).pages i) (set_at (row_view u).pages i)
          (set_at w.pages i) v (over.pages i lt v) (other.pages i lt v)
          (within_either is_page page_bit r.pages.items s.pages.items u.pages.items
          alike.pages c.0 i v t);
      protects = λ i lt v t.
          of_either (set_at (row_view s).protects i) (set_at (row_view u).protects i)
          (set_at w.protects i) v (over.protects i lt v) (other.protects i lt v)
          (within_either is_protect protect_bit r.protects.items s.protects.items
          u.protects.items alike.protects c.1 i v t);
      good = λ d t. c.2 d (meet_both is_rail (λ x. x) s.good u.good d (over.good d t)
          (other.good d t));
      regs = spans_from w.regs r.regs c.3;
      sources = cover_many w.sources s.sources r.sources c.4 over.sources;
      counters = spans_from w.counters r.counters c.5;
      lost = c.6;
    }
      where
        of_either : (x y z : Set) (v : ℕ) → (IsTrue (x v) → IsTrue (z v))
            → (IsTrue (y v) → IsTrue (z v)) → IsTrue (x v) ⊎ IsTrue (y v) → IsTrue (z v)
        of_either x y z v k h (inl t) = k t
        of_either x y z v k h (inr t) = h t

-- all that a row of the board may know
abbrev up_to : ℕ → Span
up_to most = record { lo = 0; hi = most }

abbrev widest : Board → Row
widest b = record {
  pages = map (λ (t : Target). is_page_value t.pages) b.targets;
  protects = map (λ (t : Target). is_protection) b.targets;
  good = empty;
  regs = replicate 8 (up_to 65535);
  sources = [];
  counters = replicate 4 (up_to 1000);
  lost = up_to b.contentions;
  base = 0;
  coeffs = replicate 4 0;
  lost_coeff = 0;
}

at_map : {X Y : Type 0} (f : X → Y) (xs : List X) (i : ℕ) (x : X) (d : Y)
    → slice_get xs i ≡ Some x → slice_index_or (map f xs) i d ≡ f x
at_map f [] i x d e = absurd (none_some x e)
at_map f (y ∷ xs) zero x d e = ap f (some_same y x e)
at_map f (y ∷ xs) (suc i) x d e = at_map f xs i x d e

pages_at : (b : Board) (i : ℕ) (t : Target) → IsTargetAt b i t
    → set_at (widest b).pages i ≡ is_page_value t.pages
pages_at b i t at = at_map (λ (u : Target). is_page_value u.pages) b.targets i t empty at

protects_at : (b : Board) (i : ℕ) (t : Target) → IsTargetAt b i t
    → set_at (widest b).protects i ≡ is_protection
protects_at b i t at = at_map (λ (u : Target). is_protection) b.targets i t empty at

spans_below : (n most : ℕ) (ss : List Span) → length ss ≡ n
    → ((r : ℕ) → r < n → Span.hi (span_at ss r) ≤ most) → SpansCover (replicate n (up_to most)) ss
spans_below zero most [] e h = tt
spans_below zero most (s ∷ ss) e h = absurd (omega (arith, e))
spans_below (suc n) most [] e h = absurd (omega (arith, e))
spans_below (suc n) most (s ∷ ss) e h = (
  (omega arith, h 0 (omega arith)),
  spans_below n most ss (omega (arith, e)) (λ r lt. h (suc r) (omega (arith, lt))),
)

below_spans : (n most : ℕ) (ss : List Span) → SpansCover (replicate n (up_to most)) ss → (r : ℕ)
    → r < n → Span.hi (span_at ss r) ≤ most
below_spans zero most ss c r lt = absurd (omega (arith, lt))
below_spans (suc n) most [] c r lt = absurd c
below_spans (suc n) most (s ∷ ss) c zero lt = c.0.1
below_spans (suc n) most (s ∷ ss) c (suc r) lt = below_spans n most ss c.1 r (omega (arith, lt))

pub spans_length : (ss us : List Span) → SpansCover ss us → length ss ≡ length us
spans_length [] [] c = refl
spans_length [] (u ∷ us) c = absurd c
spans_length (s ∷ ss) [] c = absurd c
spans_length (s ∷ ss) (u ∷ us) c = ap suc (spans_length ss us c.1)

pub span_at_covers : (ss us : List Span) (r : ℕ) → SpansCover ss us
    → SpanCovers (span_at ss r) (span_at us r)
span_at_covers [] [] r c = (omega arith, omega arith)
span_at_covers [] (u ∷ us) r c = absurd c
span_at_covers (s ∷ ss) [] r c = absurd c
span_at_covers (s ∷ ss) (u ∷ us) zero c = c.0
span_at_covers (s ∷ ss) (u ∷ us) (suc r) c = span_at_covers ss us r c.1

widest_covers : (b : Board) (s : Row) → IsShaped b s → RowCovers b (widest b) s
widest_covers b s k = record {
  pages = λ i lt v t.
      let u = found b.targets i lt in
      ap (λ (z : Set). z v) (pages_at b i u.0 u.1) ∙ (k.pages i u.0 u.1).each v t;
  protects = λ i lt v t.
      let u = found b.targets i lt in
      ap (λ (z : Set). z v) (protects_at b i u.0 u.1) ∙ (k.protects i lt).each v t;
  good = λ d t. absurd (false≢true t);
  regs = spans_below 8 65535 s.regs k.reg_count
      (λ r lt. let h = k.reg_range r lt in omega (arith, h));
  sources = λ r. inl refl;
  counters = spans_below 4 1000 s.counters k.counter_count (λ c lt. (k.counters c lt).1);
  lost = (omega arith, k.lost_range);
}

source_shaped : (b : Board) (r s : Source) → SourceCovers r s → IsSource b s → IsSource b r
source_shaped b r s (inl e) k =
    let P : Source → Type 0 = λ z. IsSource b z in subst P (sym e) tt
source_shaped b r s (inr e) k =
    let P : Source → Type 0 = λ z. IsSource b z in subst P (sym e) k

zero_at : (coeffs : List ℕ) (c : ℕ) → coeffs ≡ replicate 4 0 → c < 4
    → slice_index coeffs c ≤ most_ticks
zero_at coeffs zero e lt = let k = ap (λ xs. slice_index xs 0) e in omega (arith, k)
zero_at coeffs (suc zero) e lt = let k = ap (λ xs. slice_index xs 1) e in omega (arith, k)
zero_at coeffs (suc (suc zero)) e lt = let k = ap (λ xs. slice_index xs 2) e in omega (arith, k)
zero_at coeffs (suc (suc (suc zero))) e lt =
    let k = ap (λ xs. slice_index xs 3) e in omega (arith, k)
zero_at coeffs (suc (suc (suc (suc c)))) e lt = absurd (omega (arith, lt))

-- a row between a row of the board and the widest one
pub between_shaped : (b : Board) (r s : Row) → IsShaped b s → RowCovers b r s
    → RowCovers b (widest b) r → length r.pages ≡ length b.targets
    → length r.protects ≡ length b.targets → length r.sources ≡ 8 → r.base ≡ 0
    → r.coeffs ≡ replicate 4 0 → r.lost_coeff ≡ 0 → IsRow b r
between_shaped b r s k over under pages protects sources base coeffs coeff = record {
  page_sets = pages;
  protect_sets = protects;
  pages = λ i t at. record {
    some = (
      (k.pages i t at).some.0,
      over.pages i (inside i t at) (k.pages i t at).some.0 (k.pages i t at).some.1,
    );
    each = λ v x. sym (ap (λ (z : Set). z v) (pages_at b i t at))
        ∙ under.pages i (inside i t at) v x;
  };
  protects = λ i lt.
      let u = found b.targets i lt in
      record {
        some = (
          (k.protects i lt).some.0,
          over.protects i lt (k.protects i lt).some.0 (k.protects i lt).some.1,
        );
        each = λ v x. sym (ap (λ (z : Set). z v) (protects_at b i u.0 u.1))
            ∙ under.protects i lt v x;
      };
  good = λ d t. k.good d (over.good d t);
  reg_count = spans_length r.regs s.regs over.regs ∙ k.reg_count;
  regs = λ q lt.
      let c = span_at_covers r.regs s.regs q over.regs in
      let h = k.regs q lt in omega (arith, c.0, c.1, h);
  reg_range = λ q lt. let c = below_spans 8 65535 r.regs under.regs q lt in omega (arith, c);
  source_count = sources;
  sources = λ q lt. source_shaped b (source_at r.sources q) (source_at s.sources q)
      (over.sources q) (k.sources q lt);
  counter_count = spans_length r.counters s.counters over.counters ∙ k.counter_count;
  counters = λ q lt.
      let c = span_at_covers r.counters s.counters q over.counters in
      let h = k.counters q lt in
      (omega (arith, c.0, c.1, h.0), below_spans 4 1000 r.counters under.counters q lt);
  lost = let c = over.lost in let h = k.lost in omega (arith, c.0, c.1, h);
  lost_range = under.lost.1;
  base = omega (arith, base);
  coeff_count = ap (λ (l : List ℕ). length l) coeffs;
  coeffs = λ c lt. zero_at r.coeffs c coeffs lt;
  lost_coeff = omega (arith, coeff);
}
  where
    inside : (i : ℕ) (t : Target) → IsTargetAt b i t → i < length b.targets
    inside i t at = within b.targets i t at

cover_length : {P : Type 0} (Covers : P → P → Type 0) (xs ys : List P)
    → AllCover Covers xs ys → length xs ≡ length ys
cover_length Covers [] [] c = refl
cover_length Covers (x ∷ xs) (y ∷ ys) c = ap suc (cover_length Covers xs ys c.1)
cover_length Covers [] (y ∷ ys) c = absurd c
cover_length Covers (x ∷ xs) [] c = absurd c

pub joins : (b : Board) (r s u : CodeRow) → IsShaped b (row_view s) → IsShaped b (row_view u)
    → CoversByPart r s → CoversByPart r u
    → ((x : CodeRow) → CoversByPart x s → CoversByPart x u → CoversByPart x r) → r.base ≡ 0
    → r.coeffs ≡ replicate 4 0 → r.lost_coeff ≡ 0
    → IsJoined b (row_view r) (row_view s) (row_view u)
joins b r s u k h first second least base coeffs coeff =
    let over = rows_cover b r s first in
    let below = λ (w : Row) (x : RowCovers b w (row_view s)) (y : RowCovers b w (row_view u)).
    joins_least b r s u w alike least x y in
    record {
      shaped = between_shaped b (row_view r) (row_view s) k over
          (below (widest b) (widest_covers b (row_view s) k) (widest_covers b (row_view u) h))
          (length-map r.pages.items pages_in
          ∙ (cover_length PagesCover r.pages.items s.pages.items first.0
          ∙ (sym (length-map s.pages.items pages_in) ∙ k.page_sets)))
          (length-map r.protects.items protects_in
          ∙ (cover_length ProtectsCover r.protects.items s.protects.items first.1
          ∙ (sym (length-map s.protects.items protects_in) ∙ k.protect_sets)))
          (cover_length SourceCovers r.sources s.sources first.4 ∙ k.source_count) base coeffs
          coeff;
      first = over;
      second = rows_cover b r u second;
      least = below;
    }
  where
    alike : AreAlike s u
    alike = record {
      pages = sym (length-map s.pages.items pages_in) ∙ k.page_sets
          ∙ sym (sym (length-map u.pages.items pages_in) ∙ h.page_sets);
      protects = sym (length-map s.protects.items protects_in) ∙ k.protect_sets
          ∙ sym (sym (length-map u.protects.items protects_in) ∙ h.protect_sets);
      sources = k.source_count ∙ sym h.source_count;
    }
