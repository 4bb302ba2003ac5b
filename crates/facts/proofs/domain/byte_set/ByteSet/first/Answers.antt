use Rattle.std.proofs.Common.{◌∙◌, ap, arith}
use Rattle.std.proofs.Math.Nat.{pow-le-pow_right}
use Rattle.facts.specs.domain.Sets.{values_in}
use Rattle.facts.proofs.Coded.Placed.{placed}
use Rattle.facts.proofs.domain.byte_set.ByteSet.first.Goals as goal

pub set-requires : goal.set-requires
set-requires g c =
    let most = pow-le-pow_right {n = 2} (omega arith) c.requires.here in
    let small = c.lowest.ensures.small in
    omega (arith, most, small)

pub returns : goal.returns
returns g c =
    ap (values_in g.K.Kind.is_value g.K.Kind.place) c.set.ensures
    ∙ ap (placed g.K.Kind.is_value g.K.Kind.place) c.lowest.ensures.bits
