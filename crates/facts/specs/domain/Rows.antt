-- What is known at a place of a program, and of which machines and histories it is true.
use Rattle.std.specs.Prelude.{◌≡◌, ℕ, ◌+◌, ◌-◌, ◌*◌, ◌<◌, ◌≤◌, ◌⊎◌, IsTrue, List, [], ◌∷◌}
use Rattle.std.specs.Prelude.{length, map, slice_index, slice_index_or}
use Rattle.board.specs.Boards.{Target, Board}
use Rattle.board.specs.Valid.{is_page_value}
use Rattle.pmbus_table.specs.Protect.{is_protection}
use Rattle.targets.specs.States.{BusState, IsTargetAt}
use Rattle.simulator.specs.Machines.{Machine, Entry}
use Rattle.simulator.specs.Reports.{LastReport, IsReportedGood}
use Rattle.facts.specs.declared.domain.row.Row.{Row as CodeRow}
use Rattle.facts.specs.declared.domain.source.Source.{Source}
use Rattle.facts.specs.declared.domain.source.Source.TheVariants as source
use Rattle.facts.specs.declared.domain.span.Span.{Span}
use Rattle.facts.specs.domain.Sets.{Set, empty, pages_in, protects_in, rails_in}
use Rattle.seq_program.specs.declared.instr.TheConstants.{MOST_TURNS}
use Rattle.simulator.specs.declared.stepping.TheConstants.{MOST_TICKS}

pub record Row : Type 0 where
  pub pages : List Set
  pub protects : List Set
  pub good : Set
  pub regs : List Span
  pub sources : List Source
  pub counters : List Span
  -- how many arbitrations were lost so far
  pub lost : Span
  pub base : ℕ
  pub coeffs : List ℕ
  pub lost_coeff : ℕ

-- the code's
abbrev pub row_view : CodeRow → Row
row_view r =
    record {
      pages = map pages_in r.pages.items;
      protects = map protects_in r.protects.items;
      good = rails_in r.good;
      regs = r.regs;
      sources = r.sources;
      counters = r.counters;
      lost = r.lost;
      base = r.base;
      coeffs = r.coeffs;
      lost_coeff = r.lost_coeff;
    }

abbrev pub no_span : Span
no_span = record { lo = 1; hi = 0 }

abbrev pub set_at : List Set → ℕ → Set
set_at sets i = slice_index_or sets i empty

abbrev pub span_at : List Span → ℕ → Span
span_at spans r = slice_index_or spans r no_span

abbrev pub source_at : List Source → ℕ → Source
source_at sources r = slice_index_or sources r source.None

abbrev pub InSpan : Span → ℕ → Type 0
InSpan s x = (s.lo ≤ x) × (x ≤ s.hi)

-- each number in its span
abbrev pub InSpans : List Span → List ℕ → Type 0
InSpans [] [] = Unit {0}
InSpans (s ∷ ss) (x ∷ xs) = InSpan s x × InSpans ss xs
InSpans [] (x ∷ xs) = ⊥
InSpans (s ∷ ss) [] = ⊥

-- a register's value equals what its source names
abbrev pub IsFrom : Board → Machine → List Entry → Source → ℕ → Type 0
IsFrom b m history source.None x = Unit {0}
IsFrom b m history (source.Status d) x = (d < length b.rails) × LastReport b history d x
IsFrom b m history (source.Page i) x = (i < length b.targets) × (x ≡ slice_index m.bus.page i)
IsFrom b m history (source.Protect i) x = (i < length b.targets) × (x ≡ slice_index m.bus.protect i)

-- the meaning of a row, over machines and histories, the newest step first
pub record Admits (b : Board) (row : Row) (m : Machine) (history : List Entry) : Type 0 where
  pub pages : (i : ℕ) → i < length b.targets
      → IsTrue (set_at row.pages i (slice_index m.bus.page i))
  pub protects : (i : ℕ) → i < length b.targets
      → IsTrue (set_at row.protects i (slice_index m.bus.protect i))
  pub regs : InSpans row.regs m.regs
  pub sources : (r : ℕ) → r < length m.regs
      → IsFrom b m history (source_at row.sources r) (slice_index m.regs r)
  pub counters : InSpans row.counters m.counters
  pub lost : InSpan row.lost m.bus.lost
  pub good : (d : ℕ) → d < length b.rails → IsTrue (row.good d) → IsReportedGood b history d

-- the sum of coefficient times counter
abbrev pub weight : List ℕ → List ℕ → ℕ
weight [] counters = 0
weight (k ∷ ks) [] = 0
weight (k ∷ ks) (c ∷ cs) = k * c + weight ks cs

-- how many arbitrations may still be lost
abbrev pub left_of : Board → BusState → ℕ
left_of b s = b.contentions - s.lost

-- at most so many ticks are left, at these counters, where so many arbitrations may still be lost
abbrev pub rank : Row → List ℕ → ℕ → ℕ
rank row counters left = row.base + weight row.coeffs counters + row.lost_coeff * left

-- covers, part by part: the second lies within the first
abbrev pub SetCovers : Set → Set → Type 0
SetCovers s u = (v : ℕ) → IsTrue (u v) → IsTrue (s v)

abbrev pub SpanCovers : Span → Span → Type 0
SpanCovers s u = (s.lo ≤ u.lo) × (u.hi ≤ s.hi)

abbrev pub SourceCovers : Source → Source → Type 0
SourceCovers s u = (s ≡ source.None) ⊎ (s ≡ u)

-- each part of the first list covers the one at its place in the second
abbrev pub AllCover : {P : Type 0} → (P → P → Type 0) → List P → List P → Type 0
AllCover Covers [] [] = Unit {0}
AllCover Covers (x ∷ xs) (y ∷ ys) = Covers x y × AllCover Covers xs ys
AllCover Covers [] (y ∷ ys) = ⊥
AllCover Covers (x ∷ xs) [] = ⊥

abbrev pub SpansCover : List Span → List Span → Type 0
SpansCover [] [] = Unit {0}
SpansCover (s ∷ ss) (u ∷ us) = SpanCovers s u × SpansCover ss us
SpansCover [] (u ∷ us) = ⊥
SpansCover (s ∷ ss) [] = ⊥

-- good rails the other way round: the first has no more of them
pub record RowCovers (b : Board) (s u : Row) : Type 0 where
  pub pages : (i : ℕ) → i < length b.targets → SetCovers (set_at s.pages i) (set_at u.pages i)
  pub protects : (i : ℕ) → i < length b.targets
      → SetCovers (set_at s.protects i) (set_at u.protects i)
  pub good : SetCovers u.good s.good
  pub regs : SpansCover s.regs u.regs
  pub sources : (r : ℕ) → SourceCovers (source_at s.sources r) (source_at u.sources r)
  pub counters : SpansCover s.counters u.counters
  pub lost : SpanCovers s.lost u.lost

-- what a source names is of the board
abbrev pub IsSource : Board → Source → Type 0
IsSource b source.None = Unit {0}
IsSource b (source.Status d) = d < length b.rails
IsSource b (source.Page i) = i < length b.targets
IsSource b (source.Protect i) = i < length b.targets

abbrev pub IsSpan : Span → Type 0
IsSpan s = s.lo ≤ s.hi

-- some value is in the set, and each is a value of this kind
pub record IsSetOf (is_value : ℕ → Type 0) (s : Set) : Type 0 where
  pub some : (v : ℕ) × IsTrue (s v)
  pub each : (v : ℕ) → IsTrue (s v) → is_value v

-- base and coefficients are at most this
abbrev pub most_ticks : ℕ
most_ticks = MOST_TICKS

-- what every row of a table must be
pub record IsRow (b : Board) (row : Row) : Type 0 where
  pub page_sets : length row.pages ≡ length b.targets
  pub protect_sets : length row.protects ≡ length b.targets
  pub pages : (i : ℕ) (t : Target) → IsTargetAt b i t
      → IsSetOf (λ v. IsTrue (is_page_value t.pages v)) (set_at row.pages i)
  pub protects : (i : ℕ) → i < length b.targets
      → IsSetOf (λ v. IsTrue (is_protection v)) (set_at row.protects i)
  pub good : (d : ℕ) → IsTrue (row.good d) → d < length b.rails
  pub reg_count : length row.regs ≡ 8
  pub regs : (r : ℕ) → r < 8 → IsSpan (span_at row.regs r)
  pub reg_range : (r : ℕ) → r < 8 → Span.hi (span_at row.regs r) < 65536
  pub source_count : length row.sources ≡ 8
  pub sources : (r : ℕ) → r < 8 → IsSource b (source_at row.sources r)
  pub counter_count : length row.counters ≡ 4
  pub counters : (c : ℕ) → c < 4
      → IsSpan (span_at row.counters c) × (Span.hi (span_at row.counters c) ≤ MOST_TURNS)
  pub lost : IsSpan row.lost
  pub lost_range : row.lost.hi ≤ b.contentions
  pub base : row.base ≤ most_ticks
  pub coeff_count : length row.coeffs ≡ 4
  pub coeffs : (c : ℕ) → c < 4 → slice_index row.coeffs c ≤ most_ticks
  pub lost_coeff : row.lost_coeff ≤ most_ticks
