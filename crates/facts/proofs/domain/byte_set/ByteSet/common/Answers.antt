use Rattle.facts.proofs.Coded.Placed.{common_is}
use Rattle.facts.proofs.domain.byte_set.ByteSet.common.Goals as goal

pub returns : goal.returns
returns g c =
    common_is g.K.Kind.is_value g.K.Kind.place c.self.inside.bits c.other.inside.bits c.args.self
    c.args.other c.set.result c.self.view_is c.other.view_is c.set.ensures
