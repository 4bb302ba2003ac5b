use Rattle.facts.specs.domain.Sets.{values_in}
use Rattle.facts.proofs.Coded.Placed.{union_first, union_second, union_least}
use Rattle.facts.proofs.domain.byte_set.ByteSetPart.join.Goals as goal

pub returns-clause-first : goal.returns-clause-first
returns-clause-first g c =
    let s = values_in g.K.Kind.is_value g.K.Kind.place in
    union_first (s c.args.self.now) (s c.args.other.now) (s c.union.result) c.union.ensures

pub returns-clause-second : goal.returns-clause-second
returns-clause-second g c =
    let s = values_in g.K.Kind.is_value g.K.Kind.place in
    union_second (s c.args.self.now) (s c.args.other.now) (s c.union.result) c.union.ensures

pub returns-clause-least : goal.returns-clause-least
returns-clause-least g c = λ u.
    let s = values_in g.K.Kind.is_value g.K.Kind.place in
    union_least (s c.args.self.now) (s c.args.other.now) (s c.union.result) (s u) c.union.ensures
