-- The first part of a row that doesn't hold every start.
use Rattle.std.specs.Prelude.{◌≡◌, ◌<◌, ℕ, Option, Some, None, IsTrue, length}
use Rattle.board.specs.Boards.{Target, Board}
use Rattle.targets.specs.States.{IsTargetAt}
use Rattle.facts.specs.declared.domain.source.Source.TheVariants as source
use Rattle.facts.specs.declared.well_formed.unheld.Unheld.{Unheld}
use Rattle.facts.specs.declared.well_formed.unheld.Unheld.TheVariants as part
use Rattle.facts.specs.domain.Rows.{Row, InSpan, span_at, source_at}
use Rattle.facts.specs.domain.Uncovered.{IsBefore}
use Rattle.facts.specs.well_formed.Starts.{StartsAt}

-- what is asked of each part; of rows with eight registers and four counters it is `HoldsStarts`
abbrev pub PartHolds : Board → Row → Unheld → Type 0
PartHolds b row (part.Target i) = (t : Target) → IsTargetAt b i t → StartsAt row i t
PartHolds b row (part.Good d) = IsTrue (row.good d) → ⊥
PartHolds b row (part.Register r) = r < length row.regs → InSpan (span_at row.regs r) 0
PartHolds b row (part.Source r) = source_at row.sources r ≡ source.None
PartHolds b row (part.Counter c) = c < length row.counters → InSpan (span_at row.counters c) 0
PartHolds b row part.Lost = InSpan row.lost 0
PartHolds b row part.LostTicks = row.lost_coeff ≡ 0

-- the order of parts: by what they say, and then by that of which they say it
abbrev pub unheld_order : Unheld → ℕ × ℕ
unheld_order (part.Target i) = (0, i)
unheld_order (part.Good d) = (1, d)
unheld_order (part.Register r) = (2, r)
unheld_order (part.Source r) = (3, r)
unheld_order (part.Counter c) = (4, c)
unheld_order part.Lost = (5, 0)
unheld_order part.LostTicks = (6, 0)

pub record IsFirstUnheld (b : Board) (row : Row) (first : Unheld) : Type 0 where
  pub fails : PartHolds b row first → ⊥
  pub before : (earlier : Unheld) → IsBefore (unheld_order earlier) (unheld_order first)
      → PartHolds b row earlier

-- every part holds the starts, or this is the first that doesn't
abbrev pub FindsUnheld : Board → Row → Option Unheld → Type 0
FindsUnheld b row None = (each : Unheld) → PartHolds b row each
FindsUnheld b row (Some first) = IsFirstUnheld b row first
