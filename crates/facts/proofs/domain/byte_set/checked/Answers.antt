use Rattle.std.proofs.Common.{◌∙◌, ap, sym}
use Rattle.facts.specs.domain.Sets.{values_in}
use Rattle.facts.specs.transfer.Tests.{asked}
use Rattle.facts.proofs.Coded.Passing.{dropped}
use Rattle.facts.proofs.domain.byte_set.checked.Goals as goal

pub returns-then-not-is_asked : goal.returns-then-not-is_asked
returns-then-not-is_asked g c =
    let s = values_in g.K.Kind.is_value g.K.Kind.place in
    dropped (s c.args.set) (s c.without.result) (asked c.args.test) c.args.value
    (ap (asked c.args.test) (sym c.from.ensures) ∙ sym c.is_asked.ensures
    ∙ c.if-not-is_asked.true)
    c.without.ensures
