-- Who wins an arbitration (UM10204, 3.1.8), by the bytes and not bit by bit.
use Rattle.std.specs.Prelude.{◌≡◌, ◌≢◌, ◌≤◌, ◌<◌, ◌==◌, ℕ, List, [], map, filter, All, Contains}
use Rattle.std.specs.List.{enumerate_from}
use Rattle.wires.specs.Arbitration.{Sender, wire_byte, winners_of}

-- the indexes of those that send a byte, ascending
abbrev pub senders_of : ℕ → List ℕ → List ℕ
senders_of byte sent =
    map (λ (s : Sender). s.0) (filter (λ (s : Sender). s.1 == byte) (enumerate_from 0 sent))

-- the byte on the wire is the least of those sent, and its senders win
pub record GoesToLeast (sent : List ℕ) : Type 0 where
  pub some_sent : Contains sent (wire_byte sent)
  pub least : All (λ byte. wire_byte sent ≤ byte) sent
  pub winners : winners_of sent ≡ senders_of (wire_byte sent) sent

abbrev pub LeastByteWins : Type 0
LeastByteWins = (sent : List ℕ) → All (λ byte. byte < 256) sent → sent ≢ [] → GoesToLeast sent
