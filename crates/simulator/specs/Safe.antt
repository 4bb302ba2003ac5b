-- When a step is safe, judged from what was seen on the lines, the state before it and the steps
-- before it.
use Rattle.std.specs.Prelude.{◌≡◌, ◌≤◌, ◌+◌, ◌*◌, ◌==◌, ◌||◌, ◌⊎◌, not, ℕ, Bool, true, List, []}
use Rattle.std.specs.Prelude.{◌∷◌, length, slice_index, Some, IsTrue, All}
use Rattle.wires.specs.Events.{events_of}
use Rattle.smbus.specs.Shown.{Shown}
use Rattle.smbus.specs.Frames.{AreFrames}
use Rattle.pmbus_table.specs.Codes.{clear_faults_code, operation_code}
use Rattle.pmbus_table.specs.Operation.{enables}
use Rattle.pmbus_table.specs.Protect.{permits}
use Rattle.pmbus_table.specs.Voltage.{IsWithin, carries_voltage}
use Rattle.board.specs.Boards.{Target, Rail, Board}
use Rattle.targets.specs.States.{IsTargetAt}
use Rattle.simulator.specs.Machines.{Entry}
use Rattle.simulator.specs.Does.{HasFrame, BeginsWith}
use Rattle.simulator.specs.Allowed.{MayStand}
use Rattle.simulator.specs.Reports.{write_to, WritesTo, Selects, IsReportedGood}

-- QUERY (PMBus 1.3 Part II, 11.13)
abbrev pub query_code : ℕ
query_code = 0x1A

-- WRITE_PROTECT speaks of every write but CLEAR_FAULTS and QUERY (PMBus 1.3 Part II, 11.1; QUERY is
-- this profile's)
abbrev pub is_guarded : ℕ → Bool
is_guarded code = not (code == clear_faults_code || code == query_code)

-- the target's stored protection permits what is written to it
abbrev pub KeepsProtection : Board → Entry → Type 0
KeepsProtection b e =
    (i : ℕ) (t : Target) (code : ℕ) → IsTargetAt b i t → WritesTo t e.samples code
    → IsTrue (is_guarded code)
    → permits (slice_index e.before.protect i) code ≡ Some true

-- a commanded voltage whose two bytes went out is within the limit of each rail that PAGE selects
abbrev pub KeepsLimits : Board → Entry → Type 0
KeepsLimits b e =
    (i : ℕ) (t : Target) (code low high d : ℕ) (r : Rail) → IsTargetAt b i t
    → IsTrue (carries_voltage code)
    → BeginsWith e.samples (write_to t ∷ code ∷ low ∷ high ∷ [])
    → Selects b e.before i d r
    → IsWithin (low + 256 * high) t.exponent r.limit_uv

-- where a value that enables went out, every need of each rail that PAGE selects was reported good
abbrev pub KeepsOrder : Board → List Entry → Entry → Type 0
KeepsOrder b history e =
    (i : ℕ) (t : Target) (value d : ℕ) (r : Rail) → IsTargetAt b i t
    → BeginsWith e.samples (write_to t ∷ operation_code ∷ value ∷ []) → IsTrue (enables value)
    → Selects b e.before i d r
    → All (IsReportedGood b history) r.needs

-- the samples of a step are those of no frame, or of one that may stand on the lines
pub record IsSafe (b : Board) (history : List Entry) (e : Entry) : Type 0 where
  pub read : AreFrames (events_of e.samples) [] ⊎ ((f : Shown) × HasFrame e.samples f)
  pub one : (frames : List Shown) → AreFrames (events_of e.samples) frames → length frames ≤ 1
  pub allowed : (f : Shown) → HasFrame e.samples f → MayStand b e.before e.samples f
  pub protection : KeepsProtection b e
  pub limits : KeepsLimits b e
  pub order : KeepsOrder b history e

-- each step of a run after those before it
abbrev pub AreSafe : Board → List Entry → List Entry → Type 0
AreSafe b history [] = Unit {0}
AreSafe b history (e ∷ later) = IsSafe b history e × AreSafe b (e ∷ history) later
