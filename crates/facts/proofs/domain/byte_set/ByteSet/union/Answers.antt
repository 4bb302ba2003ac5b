use Rattle.std.proofs.lemmas.Nat.{or_lt}
use Rattle.facts.proofs.Coded.Placed.{union_is}
use Rattle.facts.proofs.domain.byte_set.ByteSet.union.Goals as goal

pub set-requires : goal.set-requires
set-requires g c =
    or_lt g.K.Kind.places c.self.inside.bits c.other.inside.bits c.self.invariant c.other.invariant

pub returns : goal.returns
returns g c =
    union_is g.K.Kind.is_value g.K.Kind.place c.self.inside.bits c.other.inside.bits c.args.self
    c.args.other c.set.result c.self.view_is c.other.view_is c.set.ensures
