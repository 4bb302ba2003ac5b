use Rattle.std.proofs.Common.{◌<◌, ℕ}
use Rattle.facts.specs.domain.Rows.{span_at, InSpan}
use Rattle.facts.proofs.well_formed.starting.span_without_zero.Given as goal

abbrev pub invariant-loop-place : goal.invariant-loop-place
invariant-loop-place l = (n : ℕ) → n < l.place → InSpan (span_at l.spans n) 0
