-- The first part of a row that doesn't cover another row's.
use Rattle.std.specs.Prelude.{◌≡◌, ◌<◌, ◌⊎◌, ℕ, Option, Some, None, IsTrue}
use Rattle.facts.specs.declared.domain.row_part.RowPart.{RowPart}
use Rattle.facts.specs.declared.domain.row_part.RowPart.TheVariants as part
use Rattle.facts.specs.domain.Rows.{Row, set_at, span_at, source_at}
use Rattle.facts.specs.domain.Rows.{SetCovers, SpanCovers, SourceCovers}

-- a part of the first row covers that of the second; a rail that is good in the first is in both
abbrev pub PartCovers : Row → Row → RowPart → Type 0
PartCovers s u (part.Pages i) = SetCovers (set_at s.pages i) (set_at u.pages i)
PartCovers s u (part.Protects i) = SetCovers (set_at s.protects i) (set_at u.protects i)
PartCovers s u (part.Good d) = IsTrue (s.good d) → IsTrue (u.good d)
PartCovers s u (part.Register r) = SpanCovers (span_at s.regs r) (span_at u.regs r)
PartCovers s u (part.Source r) = SourceCovers (source_at s.sources r) (source_at u.sources r)
PartCovers s u (part.Counter c) = SpanCovers (span_at s.counters c) (span_at u.counters c)
PartCovers s u part.Lost = SpanCovers s.lost u.lost

-- the order of parts: by what they say, and then by that of which they say it
abbrev pub order_of : RowPart → ℕ × ℕ
order_of (part.Pages i) = (0, i)
order_of (part.Protects i) = (1, i)
order_of (part.Good d) = (2, d)
order_of (part.Register r) = (3, r)
order_of (part.Source r) = (4, r)
order_of (part.Counter c) = (5, c)
order_of part.Lost = (6, 0)

abbrev pub IsBefore : ℕ × ℕ → ℕ × ℕ → Type 0
IsBefore x y = (x.0 < y.0) ⊎ ((x.0 ≡ y.0) × (x.1 < y.1))

pub record IsFirstUncovered (s u : Row) (first : RowPart) : Type 0 where
  pub fails : PartCovers s u first → ⊥
  pub before : (earlier : RowPart) → IsBefore (order_of earlier) (order_of first)
      → PartCovers s u earlier

-- every part covers, or this is the first that doesn't
abbrev pub FindsUncovered : Row → Row → Option RowPart → Type 0
FindsUncovered s u None = (each : RowPart) → PartCovers s u each
FindsUncovered s u (Some first) = IsFirstUncovered s u first
