use Rattle.std.proofs.Common.{◌<◌, ℕ}
use Rattle.facts.specs.declared.domain.span.Span.{Span}
use Rattle.facts.specs.domain.Rows.{span_at, IsSpan}
use Rattle.facts.proofs.well_formed.misfitting.empty_span.Given as goal

abbrev pub invariant-loop-place : goal.invariant-loop-place
invariant-loop-place l = record {
  ordered : (n : ℕ) → n < l.place → IsSpan (span_at l.spans n);
  words : (n : ℕ) → n < l.place → Span.hi (span_at l.spans n) < 65536;
}
