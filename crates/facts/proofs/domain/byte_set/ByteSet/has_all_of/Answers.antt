use Rattle.facts.proofs.Coded.Placed.{covers_is}
use Rattle.facts.proofs.domain.byte_set.ByteSet.has_all_of.Goals as goal

pub returns : goal.returns
returns g c =
    let k = g.K.Kind in
    covers_is k.places k.is_value k.place k.value_at c.has_all.result c.self.inside.bits
    c.other.inside.bits c.args.self c.args.other g.met.K.Kind.valid g.met.K.Kind.kept
    c.self.view_is c.other.view_is c.other.invariant c.has_all.ensures
