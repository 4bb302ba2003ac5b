use Rattle.std.proofs.Common.{◌≡◌, drop}
use Rattle.facts.specs.domain.Sets.{with_values, set_of, values_in}
use Rattle.facts.proofs.domain.byte_set.set_of.Given as goal

abbrev pub invariant-loop-value : goal.invariant-loop-value
invariant-loop-value g l =
    with_values g.K.Kind.is_value (values_in g.K.Kind.is_value g.K.Kind.place l.set)
    (drop l.value-index l.values)
    ≡ set_of g.K.Kind.is_value l.values
