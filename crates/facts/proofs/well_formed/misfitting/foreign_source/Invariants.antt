use Rattle.std.proofs.Common.{◌<◌, ℕ}
use Rattle.facts.specs.domain.Rows.{source_at, IsSource}
use Rattle.facts.proofs.well_formed.misfitting.foreign_source.Given as goal

abbrev pub invariant-loop-place : goal.invariant-loop-place
invariant-loop-place l = (n : ℕ) → n < l.place → IsSource l.board (source_at l.sources n)
