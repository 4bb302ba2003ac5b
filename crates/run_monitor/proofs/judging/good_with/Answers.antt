use Rattle.facts.specs.domain.Sets.{rails_in}
use Rattle.run_monitor.proofs.Judged.{quiet_tells}
use Rattle.run_monitor.proofs.judging.good_with.Goals as goal

pub returns-in-Some-clause-tells : goal.returns-in-Some-clause-tells
returns-in-Some-clause-tells c = rw c.in-Some.is c.good_after.ensures.tells

pub returns-in-None-clause-tells : goal.returns-in-None-clause-tells
returns-in-None-clause-tells c =
    rw c.in-None.is
    (λ d lt. quiet_tells c.args.board.now c.args.state.now c.args.answer.now d
    (rails_in c.args.good d))
