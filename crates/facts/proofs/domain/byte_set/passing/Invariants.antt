use Rattle.std.proofs.Common.{◌≡◌, ◌<◌, ◌≤◌, ◌&&◌, ℕ}
use Rattle.facts.specs.transfer.Tests.{asked}
use Rattle.facts.specs.domain.Sets.{values_in}
use Rattle.facts.proofs.domain.byte_set.passing.Given as goal

abbrev pub invariant-loop-value : goal.invariant-loop-value
invariant-loop-value g l =
    ((x : ℕ) → x < l.value
    → values_in g.K.Kind.is_value g.K.Kind.place l.kept x
    ≡ (values_in g.K.Kind.is_value g.K.Kind.place l.fn.set x && asked l.test x))
    × ((x : ℕ) → l.value ≤ x → values_in g.K.Kind.is_value g.K.Kind.place l.kept x
    ≡ values_in g.K.Kind.is_value g.K.Kind.place l.fn.set x)
