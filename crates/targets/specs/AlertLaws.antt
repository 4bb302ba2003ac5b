-- Who wins an alert response (SMBus 3.2, appendix A).
use Rattle.std.specs.Prelude.{◌≡◌, ◌≤◌, ℕ}
use Rattle.board.specs.Boards.{Target, Board}
use Rattle.board.specs.Valid.{IsBoard}
use Rattle.targets.specs.States.{BusState, IsTargetAt, Alerts}
use Rattle.targets.specs.Alerting.{WinsAlert}

-- where some target alerts, some target wins
pub record SomeWinner (b : Board) (s : BusState) : Type 0 where
  pub index : ℕ
  pub wins : WinsAlert b s index

abbrev pub SomeTargetWins : Type 0
SomeTargetWins = (b : Board) (s : BusState) (i : ℕ) (t : Target) → IsBoard b → IsTargetAt b i t
    → Alerts s i → SomeWinner b s

-- no other one does
abbrev pub OneTargetWins : Type 0
OneTargetWins = (b : Board) (s : BusState) (i j : ℕ) → IsBoard b → WinsAlert b s i → WinsAlert b s j
    → i ≡ j

-- and its address is the lowest of those that alert
abbrev pub LowestAddressWins : Type 0
LowestAddressWins = (b : Board) (s : BusState) (i j : ℕ) (t u : Target) → IsBoard b
    → WinsAlert b s i → IsTargetAt b i t → IsTargetAt b j u → Alerts s j → t.address ≤ u.address
