use Rattle.std.proofs.Common.{◌<◌, ℕ}
use Rattle.facts.specs.domain.Rows.{span_at, SpanCovers}
use Rattle.facts.proofs.domain.uncovering.uncovered_span.Given as goal

abbrev pub invariant-loop-place : goal.invariant-loop-place
invariant-loop-place l = (n : ℕ) → n < l.place
    → SpanCovers (span_at l.spans n) (span_at l.others n)
