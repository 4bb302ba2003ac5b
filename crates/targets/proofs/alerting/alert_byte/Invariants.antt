use Rattle.std.proofs.Common.{◌≡◌, drop, None}
use Rattle.targets.specs.Least.{least_with}
use Rattle.targets.proofs.AlertBytes.{bytes_from}
use Rattle.targets.proofs.alerting.alert_byte.Given as goal

-- with the bytes of the targets that are left, the least is that of all
abbrev pub invariant-loop-index : goal.invariant-loop-index
invariant-loop-index l =
    least_with l.least (bytes_from l.state l.index (drop l.index l.board.targets))
    ≡ least_with None (bytes_from l.state 0 l.board.targets)
