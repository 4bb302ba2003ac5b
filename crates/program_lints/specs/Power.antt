-- What steps do to the power of rails: which rails are on, and which had a voltage written.
use Rattle.std.specs.Prelude.{◌≡◌, ◌⊎◌, ℕ, true, List, [], ◌∷◌, IsTrue}
use Rattle.pmbus_table.specs.Codes.{operation_code}
use Rattle.pmbus_table.specs.Operation.{enables}
use Rattle.pmbus_table.specs.Voltage.{carries_voltage}
use Rattle.board.specs.Boards.{Target, Rail, Board}
use Rattle.simulator.specs.Machines.{Entry}
use Rattle.simulator.specs.Does.{BeginsWith}
use Rattle.simulator.specs.Reports.{write_to, Selects, IsRailAt, Withdraws}

-- a value that enables went out to OPERATION (PMBus 1.3 Part II, 12.1), while PAGE selects the
-- rail
pub record TurnsOn (b : Board) (e : Entry) (d : ℕ) : Type 0 where
  pub rail : Rail
  pub target : Target
  pub at : IsRailAt b d rail target
  pub selected : Selects b e.before rail.target d rail
  pub value : ℕ
  pub written : BeginsWith e.samples (write_to target ∷ operation_code ∷ value ∷ [])
  pub on : enables value ≡ true

-- the rail is on after a history, the newest step first: it was turned on, and not off since
abbrev pub IsOn : Board → List Entry → ℕ → Type 0
IsOn b [] d = ⊥
IsOn b (e ∷ before) d = TurnsOn b e d ⊎ ((Withdraws b e d → ⊥) × IsOn b before d)

-- both bytes of a commanded voltage went out, low byte first, while PAGE selects the rail
pub record WritesVoltage (b : Board) (e : Entry) (d : ℕ) : Type 0 where
  pub rail : Rail
  pub target : Target
  pub at : IsRailAt b d rail target
  pub selected : Selects b e.before rail.target d rail
  pub code : ℕ
  pub voltage : IsTrue (carries_voltage code)
  pub low : ℕ
  pub high : ℕ
  pub written : BeginsWith e.samples (write_to target ∷ code ∷ low ∷ high ∷ [])

-- some step of the history writes a voltage to the rail
abbrev pub HasVoltage : Board → List Entry → ℕ → Type 0
HasVoltage b [] d = ⊥
HasVoltage b (e ∷ before) d = WritesVoltage b e d ⊎ HasVoltage b before d
