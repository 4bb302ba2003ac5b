use Rattle.std.proofs.Common.{sym}
use Rattle.targets.proofs.Winner.{nobody_wins, place_wins, place_only}
use Rattle.targets.proofs.alerting.alert_winner.Goals as goal

pub returns-in_err-byte-clause-only : goal.returns-in_err-byte-clause-only
returns-in_err-byte-clause-only c i w =
    absurd (nobody_wins c.args.board.now c.args.state.now c.in_err-byte.ensures.byte i w)

pub returns-clause-some : goal.returns-clause-some
returns-clause-some c =
    let e = c.in_ok-byte.ensures in
    place_wins c.args.board.now c.args.state.now c.in_ok-byte.byte c.target_at.result e.board
    e.byte.1 e.sent (sym c.target_at.ensures.value)

pub returns-clause-only : goal.returns-clause-only
returns-clause-only c i w =
    let e = c.in_ok-byte.ensures in
    place_only c.args.board.now c.args.state.now c.in_ok-byte.byte c.target_at.result e.board
    e.byte.1 (sym c.target_at.ensures.value) i w
