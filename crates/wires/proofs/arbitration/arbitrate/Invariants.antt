use Rattle.std.proofs.Common.{◌≡◌, ◌==◌, ◌++◌, map, filter, drop}
use Rattle.std.specs.List.{enumerate_from}
use Rattle.wires.specs.Arbitration.{Sender}
use Rattle.wires.proofs.arbitration.arbitrate.Given as goal

abbrev pub invariant-loop-sender : goal.invariant-loop-sender
invariant-loop-sender l =
    l.winners.items ++ map (λ (s : Sender). s.0)
    (filter (λ (s : Sender). s.1 == l.least) (enumerate_from l.sender (drop l.sender l.sent)))
    ≡ map (λ (s : Sender). s.0) (filter (λ (s : Sender). s.1 == l.least) (enumerate_from 0 l.sent))
