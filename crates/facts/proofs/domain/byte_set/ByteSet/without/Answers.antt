use Rattle.std.proofs.Common.{◌∙◌, ap}
use Rattle.facts.specs.domain.Sets.{values_in}
use Rattle.facts.proofs.Coded.Placed.{without_is, apart}
use Rattle.facts.proofs.domain.byte_set.ByteSet.without.Goals as goal

pub returns : goal.returns
returns g c =
    let k = g.K.Kind in
    ap (values_in k.is_value k.place) c.set.ensures
    ∙ without_is k.is_value k.place c.self.inside.bits c.args.self c.without_place.result
    c.args.value c.place.result (apart k.is_value k.place k.value_at g.met.K.Kind.back)
    c.self.view_is c.place.ensures.at c.requires c.without_place.ensures.bits
