-- The alert response (SMBus 3.2, appendix A): the targets that pull SMBALERT# low send their
-- addresses together, and the one that wins the arbitration stops alerting.
use Rattle.std.specs.Prelude.{◌≡◌, ◌*◌, ℕ, List, map, filter, IsTrue}
use Rattle.std.specs.List.{enumerate_from}
use Rattle.wires.specs.Bits.{bit}
use Rattle.wires.specs.Arbitration.{wire_byte}
use Rattle.board.specs.Boards.{Target, Board}
use Rattle.targets.specs.States.{BusState, IsTargetAt, Alerts}

-- an address in the upper seven bits; that the lowest bit is sent as 0 is this profile's
abbrev pub address_byte : Target → ℕ
address_byte t = 2 * t.address

-- what the targets that alert send
unfoldable pub alert_bytes : Board → BusState → List ℕ
alert_bytes b s =
    map (λ (t : ℕ × Target). address_byte t.1)
    (filter (λ (t : ℕ × Target). bit s.alerting t.0) (enumerate_from 0 b.targets))

-- the target sends what the wire carries
pub record WinsAlert (b : Board) (s : BusState) (i : ℕ) : Type 0 where
  pub target : Target
  pub at : IsTargetAt b i target
  pub alerts : Alerts s i
  pub sent : address_byte target ≡ wire_byte (alert_bytes b s)

-- an answer lets only those targets begin to alert that may
pub record MayAlert (b : Board) (i : ℕ) : Type 0 where
  pub target : Target
  pub at : IsTargetAt b i target
  pub can : IsTrue target.alerts

abbrev pub MayAllAlert : Board → ℕ → Type 0
MayAllAlert b alerts = (i : ℕ) → IsTrue (bit alerts i) → MayAlert b i
