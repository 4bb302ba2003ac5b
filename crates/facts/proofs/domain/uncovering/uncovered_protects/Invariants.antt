use Rattle.std.proofs.Common.{◌<◌, ℕ}
use Rattle.facts.specs.domain.Rows.{row_view, set_at, SetCovers}
use Rattle.facts.proofs.domain.uncovering.uncovered_protects.Given as goal

abbrev pub invariant-loop-target : goal.invariant-loop-target
invariant-loop-target l = (i : ℕ) → i < l.target
    → SetCovers (set_at (row_view l.row).protects i) (set_at (row_view l.other).protects i)
