use Rattle.targets.proofs.Winner.{few_winners}
use Rattle.targets.proofs.step.stops_alerting.Goals as goal

pub returns-in-Some-clause-only : goal.returns-in-Some-clause-only
returns-in-Some-clause-only c i w = c.alert_winner.ensures.only i w.wins

pub returns-in-Some-clause-few : goal.returns-in-Some-clause-few
returns-in-Some-clause-few c =
    let w = c.alert_winner in
    few_winners c.args.board.now c.args.state.now w.result w.ensures.board w.ensures.some
