use Rattle.std.proofs.Common.{◌≡◌, ◌<◌, ℕ, false}
use Rattle.facts.specs.domain.Sets.{values_in}
use Rattle.facts.proofs.domain.byte_set.least.Given as goal

abbrev pub invariant-loop-value : goal.invariant-loop-value
invariant-loop-value g l = (x : ℕ) → x < l.value
    → values_in g.K.Kind.is_value g.K.Kind.place l.set x ≡ false
