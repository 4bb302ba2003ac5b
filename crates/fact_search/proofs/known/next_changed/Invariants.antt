use Rattle.std.proofs.Common.{◌≡◌, ◌<◌, ◌≤◌, ℕ, false}
use Rattle.fact_search.specs.Searching.{is_changed}
use Rattle.fact_search.proofs.known.next_changed.Given as goal

abbrev pub invariant-loop-place : goal.invariant-loop-place
invariant-loop-place l =
    (n : ℕ) → l.from ≤ n → n < l.place → is_changed l.changed n ≡ false
