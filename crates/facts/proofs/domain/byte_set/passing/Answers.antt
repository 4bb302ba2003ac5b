use Rattle.std.proofs.Common.{arith}
use Rattle.wires.specs.Bits.{bit}
use Rattle.facts.specs.domain.Sets.{values_in}
use Rattle.facts.specs.transfer.Tests.{asked}
use Rattle.facts.proofs.Coded.Placed.{and_left}
use Rattle.facts.proofs.Coded.Passing.{passed}
use Rattle.facts.proofs.domain.byte_set.passing.Goals as goal

pub returns-2 : goal.returns-2
returns-2 g c =
    let k = g.K.Kind in
    let s = values_in k.is_value k.place in
    let last = c.loop-value.auto.value-end in
    passed (s c.args.set) (s c.loop-value.kept) (s c.checked-kept.result) (asked c.args.test)
    c.loop-value.value (omega (arith, last)) c.checked-kept.ensures c.loop-value.invariant.0
    c.loop-value.invariant.1
    (λ x in'. g.met.K.Kind.small x
    (and_left (k.is_value x) (bit c.args.set (k.place x)) in'))
