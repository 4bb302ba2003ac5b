-- The first part of a row that isn't a board's.
use Rattle.std.specs.Prelude.{◌≡◌, ◌<◌, ◌≤◌, ℕ, Option, Some, None, IsTrue, length, slice_index}
use Rattle.board.specs.Boards.{Target, Board}
use Rattle.board.specs.Valid.{is_page_value}
use Rattle.pmbus_table.specs.Protect.{is_protection}
use Rattle.targets.specs.States.{IsTargetAt}
use Rattle.seq_program.specs.declared.instr.TheConstants.{MOST_TURNS}
use Rattle.facts.specs.declared.domain.span.Span.{Span}
use Rattle.facts.specs.declared.well_formed.misfit.Misfit.{Misfit}
use Rattle.facts.specs.declared.well_formed.misfit.Misfit.TheVariants as part
use Rattle.facts.specs.domain.Rows.{Row, IsSetOf, IsSource, IsSpan, most_ticks}
use Rattle.facts.specs.domain.Rows.{set_at, span_at, source_at}
use Rattle.facts.specs.domain.Uncovered.{IsBefore}

-- what is asked of each part; of rows with eight registers and four counters it is `IsRow`
abbrev pub PartFits : Board → Row → Misfit → Type 0
PartFits b row part.Sets =
    (length row.pages ≡ length b.targets) × (length row.protects ≡ length b.targets)
PartFits b row (part.Pages i) =
    (t : Target) → IsTargetAt b i t
    → IsSetOf (λ v. IsTrue (is_page_value t.pages v)) (set_at row.pages i)
PartFits b row (part.Protects i) =
    i < length b.targets → IsSetOf (λ v. IsTrue (is_protection v)) (set_at row.protects i)
PartFits b row (part.Good d) = IsTrue (row.good d) → d < length b.rails
PartFits b row (part.Register r) = r < length row.regs → IsSpan (span_at row.regs r)
PartFits b row (part.Source r) = IsSource b (source_at row.sources r)
PartFits b row (part.Counter c) = c < length row.counters → IsSpan (span_at row.counters c)
PartFits b row part.Lost = IsSpan row.lost
PartFits b row part.Contentions = row.lost.hi ≤ b.contentions
PartFits b row (part.Turns c) = Span.hi (span_at row.counters c) ≤ MOST_TURNS
PartFits b row part.Ticks =
    (row.base ≤ most_ticks)
    × ((c : ℕ) → c < length row.coeffs → slice_index row.coeffs c ≤ most_ticks)
    × (row.lost_coeff ≤ most_ticks)

-- the order of parts: by what they say, and then by that of which they say it
abbrev pub misfit_order : Misfit → ℕ × ℕ
misfit_order part.Sets = (0, 0)
misfit_order (part.Pages i) = (1, i)
misfit_order (part.Protects i) = (2, i)
misfit_order (part.Good d) = (3, d)
misfit_order (part.Register r) = (4, r)
misfit_order (part.Source r) = (5, r)
misfit_order (part.Counter c) = (6, c)
misfit_order part.Lost = (7, 0)
misfit_order part.Contentions = (8, 0)
misfit_order (part.Turns c) = (9, c)
misfit_order part.Ticks = (10, 0)

pub record IsFirstMisfit (b : Board) (row : Row) (first : Misfit) : Type 0 where
  pub fails : PartFits b row first → ⊥
  pub before : (earlier : Misfit) → IsBefore (misfit_order earlier) (misfit_order first)
      → PartFits b row earlier

-- every part fits, or this is the first that doesn't
abbrev pub FindsMisfit : Board → Row → Option Misfit → Type 0
FindsMisfit b row None = (each : Misfit) → PartFits b row each
FindsMisfit b row (Some first) = IsFirstMisfit b row first
