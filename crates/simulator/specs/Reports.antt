-- What a step writes, reports and withdraws, judged from what was seen on the lines.
use Rattle.std.specs.Prelude.{◌≡◌, ◌*◌, ◌==◌, ◌||◌, ◌⊎◌, ℕ, Bool, false, List, [], ◌∷◌, slice_get}
use Rattle.std.specs.Prelude.{slice_index, Some, IsTrue}
use Rattle.wires.specs.declared.lines.Sample.{Sample}
use Rattle.pmbus_table.specs.Codes.{operation_code, status_word_code}
use Rattle.pmbus_table.specs.Operation.{enables}
use Rattle.pmbus_table.specs.Status.{reported_good}
use Rattle.board.specs.Boards.{Target, Rail, Board}
use Rattle.targets.specs.States.{BusState, IsTargetAt}
use Rattle.simulator.specs.Machines.{Entry}
use Rattle.simulator.specs.Does.{BeginsWith, SendsByte, ReportsWord}

-- the address of a target with the direction to write
abbrev pub write_to : Target → ℕ
write_to t = 2 * t.address

-- a code is written to the target: its address, the code and a byte after it went out, or it is a
-- whole Send Byte of the code, and SCL was nowhere low for too long
abbrev pub WritesTo : Target → List Sample → ℕ → Type 0
WritesTo t samples code =
    ((value : ℕ) × BeginsWith samples (write_to t ∷ code ∷ value ∷ []))
    ⊎ SendsByte samples t.address code

-- a stored PAGE selects the rail on it, and FFh every rail of the target (PMBus 1.3 Part II, 11.10)
abbrev pub selects : ℕ → ℕ → Bool
selects stored page = stored == page || stored == 0xFF

-- rail d is one of target i, and the stored PAGE selects it
pub record Selects (b : Board) (s : BusState) (i d : ℕ) (r : Rail) : Type 0 where
  pub rail : slice_get b.rails d ≡ Some r
  pub on_target : r.target ≡ i
  pub page : IsTrue (selects (slice_index s.page i) r.page)

-- the rail of an index, and its target
pub record IsRailAt (b : Board) (d : ℕ) (r : Rail) (t : Target) : Type 0 where
  pub rail : slice_get b.rails d ≡ Some r
  pub target : IsTargetAt b r.target t

-- a whole Read Word of STATUS_WORD (PMBus 1.3 Part II, 17.2) returns the word, while PAGE is the
-- rail's
pub record Reports (b : Board) (e : Entry) (d word : ℕ) : Type 0 where
  pub rail : Rail
  pub target : Target
  pub at : IsRailAt b d rail target
  pub page : slice_index e.before.page rail.target ≡ rail.page
  pub reports : ReportsWord e.samples target.address status_word_code word

-- a value that doesn't enable went out to OPERATION (PMBus 1.3 Part II, 12.1), while PAGE selects
-- the rail
pub record Withdraws (b : Board) (e : Entry) (d : ℕ) : Type 0 where
  pub rail : Rail
  pub target : Target
  pub at : IsRailAt b d rail target
  pub selected : Selects b e.before rail.target d rail
  pub value : ℕ
  pub written : BeginsWith e.samples (write_to target ∷ operation_code ∷ value ∷ [])
  pub off : enables value ≡ false

-- what a rail reported last in a history, the newest step first, if nothing withdrew it since
abbrev pub LastReport : Board → List Entry → ℕ → ℕ → Type 0
LastReport b [] d word = ⊥
LastReport b (e ∷ before) d word =
    Reports b e d word
    ⊎ (((other : ℕ) → Reports b e d other → ⊥) × (Withdraws b e d → ⊥) × LastReport b before d word)

-- and that was good
pub record IsReportedGood (b : Board) (history : List Entry) (d : ℕ) : Type 0 where
  pub word : ℕ
  pub last : LastReport b history d word
  pub good : IsTrue (reported_good word)
