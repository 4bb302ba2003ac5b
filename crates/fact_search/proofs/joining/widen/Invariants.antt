use Rattle.std.proofs.Common.{◌≤◌, All}
use Rattle.facts.specs.domain.Rows.{SpansCover}
use Rattle.fact_search.proofs.joining.widen.Given as goal

abbrev pub invariant-loop-i : goal.invariant-loop-i
invariant-loop-i l = record {
  covers : SpansCover l.spans l.fn.spans;
  most : All (λ s. s.hi ≤ l.most) l.spans;
}
