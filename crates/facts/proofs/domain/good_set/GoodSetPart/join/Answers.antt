use Rattle.facts.specs.domain.Sets.{rails_in}
use Rattle.facts.proofs.Coded.Placed.{common_first, common_second, common_most}
use Rattle.facts.proofs.domain.good_set.GoodSetPart.join.Goals as goal

pub returns-clause-first : goal.returns-clause-first
returns-clause-first c =
    common_first (rails_in c.args.self.now) (rails_in c.args.other.now) (rails_in c.common.result)
    c.common.ensures

pub returns-clause-second : goal.returns-clause-second
returns-clause-second c =
    common_second (rails_in c.args.self.now) (rails_in c.args.other.now)
    (rails_in c.common.result) c.common.ensures

pub returns-clause-least : goal.returns-clause-least
returns-clause-least c = λ u.
    common_most (rails_in c.args.self.now) (rails_in c.args.other.now) (rails_in c.common.result)
    (rails_in u) c.common.ensures
