use Rattle.facts.specs.domain.Sets.{rails_in}
use Rattle.run_monitor.proofs.Gained.{gains_one}
use Rattle.run_monitor.proofs.judging.with_good.Goals as goal

pub returns-then-is_good : goal.returns-then-is_good
returns-then-is_good c =
    gains_one (rails_in c.args.good) (rails_in c.with.result) c.args.index c.args.is_good
    c.if-is_good.true c.with.ensures
