use Rattle.std.proofs.Common.{◌∙◌, sym, arith}
use Rattle.facts.specs.domain.Sets.{values_in}
use Rattle.facts.proofs.Coded.Ends.{last_is, none_last}
use Rattle.facts.proofs.domain.byte_set.greatest.Goals as goal

pub returns-then-contains : goal.returns-then-contains
returns-then-contains g c =
    last_is (values_in g.K.Kind.is_value g.K.Kind.place c.args.set) 255 c.loop-value.value
    c.loop-value-test.true
    c.loop-value.auto.value c.loop-value.invariant
    (sym c.contains.ensures ∙ c.if-contains.true)

pub returns : goal.returns
returns g c =
    let past = c.loop-value-test.false in
    none_last (values_in g.K.Kind.is_value g.K.Kind.place c.args.set) 255
    (λ x some le. c.loop-value.invariant x (omega (arith, some, past)) le)
