-- K8: the row of place 0 holds every start.
use Rattle.std.specs.Prelude.{◌≡◌, ℕ, IsTrue, All, replicate}
use Rattle.board.specs.Boards.{Target, Board}
use Rattle.targets.specs.States.{IsTargetAt}
use Rattle.facts.specs.declared.domain.source.Source.TheVariants as source
use Rattle.facts.specs.domain.Rows.{Row, set_at, source_at, InSpans, InSpan}
use Rattle.facts.specs.domain.Sets.{empty}
use Rattle.facts.specs.duties.Duties.{one}

-- each value that a target may start with, no good rail, 0 in each register and counter, no
-- sources, and no lost arbitration, which are left at no cost
pub record HoldsStarts (b : Board) (row : Row) : Type 0 where
  pub pages : (i : ℕ) (t : Target) → IsTargetAt b i t
      → All (λ v. IsTrue (set_at row.pages i v)) t.start_pages
  pub protects : (i : ℕ) (t : Target) → IsTargetAt b i t
      → All (λ v. IsTrue (set_at row.protects i v)) t.start_protects
  pub good : (d : ℕ) → IsTrue (row.good d) → ⊥
  pub regs : InSpans row.regs (replicate 8 0)
  pub counters : InSpans row.counters (replicate 4 0)
  pub sources : (r : ℕ) → source_at row.sources r ≡ source.None
  pub lost : InSpan row.lost 0
  pub lost_coeff : row.lost_coeff ≡ 0

-- what of it is asked of a target
abbrev pub StartsAt : Row → ℕ → Target → Type 0
StartsAt row i t =
    All (λ v. IsTrue (set_at row.pages i v)) t.start_pages
    × All (λ v. IsTrue (set_at row.protects i v)) t.start_protects

-- beside the values of PAGE and WRITE_PROTECT a row says just this of the start, and that no ticks
-- are left
pub record SaysJustStart (row : Row) : Type 0 where
  pub good : row.good ≡ empty
  pub regs : row.regs ≡ replicate 8 (one 0)
  pub sources : row.sources ≡ replicate 8 source.None
  pub counters : row.counters ≡ replicate 4 (one 0)
  pub lost : row.lost ≡ one 0
  pub base : row.base ≡ 0
  pub coeffs : row.coeffs ≡ replicate 4 0
  pub lost_coeff : row.lost_coeff ≡ 0
