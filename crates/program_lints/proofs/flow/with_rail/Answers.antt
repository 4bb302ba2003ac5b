use Rattle.facts.specs.domain.Sets.{rails_in}
use Rattle.program_lints.proofs.Gained.{gains_one}
use Rattle.program_lints.proofs.flow.with_rail.Goals as goal

pub returns-then-is_in : goal.returns-then-is_in
returns-then-is_in c =
    gains_one (rails_in c.args.set) (rails_in c.with.result) c.args.rail c.args.is_in
    c.if-is_in.true c.with.ensures
