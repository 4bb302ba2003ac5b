use Rattle.std.proofs.Common.{◌<◌, IfSome, ℕ}
use Rattle.fact_search.specs.Searching.{jump_at}
use Rattle.fact_search.proofs.forward.is_forward.Given as goal

abbrev pub invariant-loop-place : goal.invariant-loop-place
invariant-loop-place l =
    (n : ℕ) → n < l.place → IfSome (jump_at l.program n) (λ to. n < to)
