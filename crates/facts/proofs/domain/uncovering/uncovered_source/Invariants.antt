use Rattle.std.proofs.Common.{◌<◌, ℕ}
use Rattle.facts.specs.domain.Rows.{source_at, SourceCovers}
use Rattle.facts.proofs.domain.uncovering.uncovered_source.Given as goal

abbrev pub invariant-loop-place : goal.invariant-loop-place
invariant-loop-place l = (n : ℕ) → n < l.place
    → SourceCovers (source_at l.sources n) (source_at l.others n)
