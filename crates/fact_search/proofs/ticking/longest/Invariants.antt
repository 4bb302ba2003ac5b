use Rattle.std.proofs.Common.{◌≤◌, ◌<◌, ◌+◌, ℕ, All, get_or}
use Rattle.std.specs.Prelude.{min, slice_index}
use Rattle.fact_search.specs.Ticking.{most_worst}
use Rattle.fact_search.proofs.ticking.longest.Given as goal

abbrev pub invariant-loop-lead : goal.invariant-loop-lead
invariant-loop-lead l = record {
  some : 1 ≤ l.most;
  pays : (k : ℕ) (d : ℕ × ℕ) → k < l.lead-index
      → min (get_or l.leads k d).1 l.cost + slice_index l.ticks (get_or l.leads k d).0 ≤ l.most;
  most : (bound : ℕ) → 1 ≤ bound → All (λ n. n ≤ bound) l.ticks → l.most ≤ bound + most_worst;
}
