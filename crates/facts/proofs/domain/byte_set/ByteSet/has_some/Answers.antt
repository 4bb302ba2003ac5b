use Rattle.facts.proofs.Coded.Placed.{has_some}
use Rattle.facts.proofs.domain.byte_set.ByteSet.has_some.Goals as goal

pub returns : goal.returns
returns g c =
    let k = g.K.Kind in
    has_some k.places k.is_value k.place k.value_at c.self.inside.bits c.args.self.now
    g.met.K.Kind.few g.met.K.Kind.valid g.met.K.Kind.kept c.self.view_is c.self.invariant
