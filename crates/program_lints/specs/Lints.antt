-- The lints of a program, told from its table of facts and what is sure of the power of its rails.
use Rattle.std.specs.Prelude.{◌≡◌, ◌↔◌, ◌++◌, ◌&&◌, ◌||◌, ◌==◌, ℕ, zero, suc, Bool, true, false}
use Rattle.std.specs.Prelude.{not, if◌then◌else◌, nat_lt, List, [], ◌∷◌, length, slice_get, Option}
use Rattle.std.specs.Prelude.{Some, None, IsTrue, flat_map}
use Rattle.std.specs.List.{list_any, enumerate_from}
use Rattle.std.specs.Option.{option_map_or}
use Rattle.smbus.specs.declared.message.Form.{Form}
use Rattle.smbus.specs.declared.message.Form.TheVariants as form
use Rattle.pmbus_table.specs.Codes.{operation_code}
use Rattle.pmbus_table.specs.Operation.{enables}
use Rattle.pmbus_table.specs.Voltage.{carries_voltage}
use Rattle.board.specs.Boards.{Allow, Target, Rail, Board}
use Rattle.seq_program.specs.declared.instr.Instr.{Instr}
use Rattle.seq_program.specs.declared.instr.Instr.TheVariants as instr
use Rattle.seq_program.specs.declared.instr.Written.TheVariants as written
use Rattle.facts.specs.domain.Rows.{Row}
use Rattle.facts.specs.domain.Sets.{Set, HasValue, only, rails_in}
use Rattle.facts.specs.duties.Duties.{is_touched}
use Rattle.table_check.specs.Tables.{Table, row_of}
use Rattle.table_check.specs.checker.Obligations.{IsInductive}
use Rattle.program_lints.specs.declared.lint.ProgramLint.{ProgramLint}
use Rattle.program_lints.specs.declared.lint.ProgramLint.TheVariants as lint
use Rattle.program_lints.specs.declared.power.PowerStates.{PowerStates}
use Rattle.program_lints.specs.Reached.{begins_stretch}
use Rattle.program_lints.specs.ProtectLeft.{is_protect_left}
use Rattle.program_lints.specs.NoRail.{powered_target, may_reach_bare}
use Rattle.program_lints.specs.UnservedAlert.{is_unserved}
use Rattle.program_lints.specs.PowerStates.{may_be_on, has_voltage, IsWide, IsSure}

abbrev pub Lints : Type 0
Lints = List ProgramLint

-- this lint, if there is reason for it
abbrev pub only_if : Bool → ProgramLint → Lints
only_if there found = if there then found ∷ [] else []

-- the target to whose OPERATION an instruction writes a value that passes a test
abbrev pub operation_target : (ℕ → Bool) → Instr → Option ℕ
operation_target test (instr.Write t code (written.Byte value) otherwise) =
    if (code == operation_code) && test value then Some t else None
operation_target test _ = None

abbrev pub touches_at : Board → Row → Option ℕ → ℕ → Bool
touches_at b row None d = false
touches_at b row (Some t) d = is_touched b row t d

-- an instruction may turn a rail on, or off (PMBus 1.3 Part II, 12.1)
abbrev pub may_turn_on : Board → Row → Instr → ℕ → Bool
may_turn_on b row i d = touches_at b row (operation_target enables i) d

abbrev pub disables : ℕ → Bool
disables value = not (enables value)

abbrev pub may_turn_off : Board → Row → Instr → ℕ → Bool
may_turn_off b row i d = touches_at b row (operation_target disables i) d

-- the program ends where a rail may be on that isn't known to be good
abbrev pub ends_unsure : Row → Set → Instr → ℕ → Bool
ends_unsure row on instr.End d = on d && not (row.good d)
ends_unsure row on i d = false

-- a rail may be turned off, or isn't known to be good at the end
abbrev pub may_be_lost : Board → Row → Set → Instr → ℕ → Bool
may_be_lost b row on i d = may_turn_off b row i d || ends_unsure row on i d

-- an entry of the rail's target takes voltages
abbrev pub writes_word : Form → Bool
writes_word form.WriteWord = true
writes_word other = false

abbrev pub takes_voltage : Allow → Bool
takes_voltage a = writes_word a.form && carries_voltage a.code

abbrev pub takes_voltages : Board → Rail → Bool
takes_voltages b r =
    option_map_or (λ t. list_any takes_voltage t.allow) (slice_get b.targets r.target) false

-- a rail may be turned on whose voltage is the program's to set, and isn't surely set
abbrev pub is_before_voltage : Board → Row → Instr → Set → ℕ × Rail → Bool
is_before_voltage b row i has rail =
    may_turn_on b row i rail.0 && (takes_voltages b rail.1 && not (has rail.0))

abbrev pub voltage_lints : Board → Row → Instr → Set → ℕ → ℕ × Rail → Lints
voltage_lints b row i has place rail =
    only_if (is_before_voltage b row i has rail) (lint.BeforeVoltage place rail.0)

abbrev pub before_voltages : Board → Row → Instr → Set → ℕ → Lints
before_voltages b row i has place =
    flat_map (voltage_lints b row i has place) (enumerate_from 0 b.rails)

-- the needs of a rail
abbrev pub needs_of : Board → ℕ → List ℕ
needs_of b d = option_map_or (λ r. r.needs) (slice_get b.rails d) []

-- with these rails those that need one of them
abbrev pub next_leaning : Board → Set → Set
next_leaning b rails = λ d. rails d || list_any rails (needs_of b d)

-- a rail, and the rails that need it through so many needs at most
unfoldable pub leaning : Board → ℕ → ℕ → Set
leaning b zero need = only need
leaning b (suc needs) need = next_leaning b (leaning b needs need)

-- the rails that need it, through as many needs as there may be on a board
abbrev pub leans_on : Board → ℕ → Set
leans_on b need = λ d. leaning b 64 need d && not (d == need)

-- a rail may be lost while another may be on that needs it
abbrev pub need_lints : Set → Set → ℕ → ℕ → ℕ × Rail → Lints
need_lints leaning on place need rail =
    only_if (leaning rail.0 && on rail.0) (lint.NeedLost place need rail.0)

abbrev pub need_lints_in : Board → Set → Set → ℕ → ℕ → Lints
need_lints_in b leaning on place need =
    flat_map (need_lints leaning on place need) (enumerate_from 0 b.rails)

abbrev pub need_loss : Board → Row → Instr → Set → ℕ → ℕ × Rail → Lints
need_loss b row i on place need =
    if may_be_lost b row on i need.0 then need_lints_in b (leans_on b need.0) on place need.0
    else []

abbrev pub need_losses : Board → Row → Instr → Set → ℕ → Lints
need_losses b row i on place = flat_map (need_loss b row i on place) (enumerate_from 0 b.rails)

-- the rails of the board that may be on
abbrev pub on_board : Board → Set → Set
on_board b on = λ d. nat_lt d (length b.rails) && on d

-- some of them may be on where the program fails
pub record TellsOn (b : Board) (on : Set) (place : ℕ) (lints : Lints) : Type 0 where
  pub rails : ℕ
  pub are : (d : ℕ) → rails_in rails d ≡ on_board b on d
  pub some : Bool
  pub is_some : IsTrue some ↔ HasValue (rails_in rails)
  pub told : lints ≡ only_if some (lint.OnAtFail place rails)

abbrev pub AreFailLints : Board → Instr → Set → ℕ → Lints → Type 0
AreFailLints b instr.Fail on place lints = TellsOn b on place lints
AreFailLints b i on place lints = lints ≡ []

-- nothing leads to a place, and it is the first of such a stretch
abbrev pub unreached : Table → ℕ → Lints
unreached t place = only_if (begins_stretch t place) (lint.Unreached place)

-- a lint for each target whose WRITE_PROTECT may be left otherwise than it began
abbrev pub protect_lints : List Instr → Table → Row → Instr → ℕ → ℕ × Target → Lints
protect_lints p t row i place target =
    only_if (is_protect_left p t row i target) (lint.ProtectLeft place target.0)

abbrev pub protects_left : Board → List Instr → Table → Row → Instr → ℕ → Lints
protects_left b p t row i place =
    flat_map (protect_lints p t row i place) (enumerate_from 0 b.targets)

-- an instruction may give power to a page that no rail of the board has
abbrev pub no_rail_of : Board → Row → ℕ → Option ℕ → Lints
no_rail_of b row place None = []
no_rail_of b row place (Some target) =
    only_if (may_reach_bare b row target) (lint.NoRail place target)

abbrev pub no_rail : Board → Row → Instr → ℕ → Lints
no_rail b row i place = no_rail_of b row place (powered_target i)

-- an instruction looks at SMBALERT#, and none asks who pulls it low
abbrev pub unserved_alert : List Instr → Table → Instr → ℕ → Lints
unserved_alert p t i place = only_if (is_unserved p t i) (lint.UnservedAlert place)

-- the lints of an instruction at its row that its table tells
abbrev pub table_lints : Board → List Instr → Table → Row → Instr → ℕ → Lints
table_lints b p t row i place =
    protects_left b p t row i place ++ (no_rail b row i place ++ unserved_alert p t i place)

-- the lints of an instruction at its row
pub record AreLintsOf (b : Board) (p : List Instr) (t : Table) (row : Row) (i : Instr)
    (on has : Set) (place : ℕ) (lints : Lints) : Type 0 where
  pub fails : Lints
  pub at_fail : AreFailLints b i on place fails
  pub told : lints ≡ fails ++ (before_voltages b row i has place
      ++ (need_losses b row i on place ++ table_lints b p t row i place))

-- those of a place
abbrev pub AreLintsAt : Board → List Instr → Table → PowerStates → ℕ → Option Instr → Option Row
    → Lints → Type 0
AreLintsAt b p t s place None row lints = lints ≡ []
AreLintsAt b p t s place (Some i) None lints = lints ≡ unreached t place
AreLintsAt b p t s place (Some i) (Some row) lints =
    AreLintsOf b p t row i (may_be_on s place) (has_voltage s place) place lints

-- those of the first so many places, in their order
abbrev pub AreLintsBelow : Board → List Instr → Table → PowerStates → ℕ → Lints → Type 0
AreLintsBelow b p t s zero lints = lints ≡ []
AreLintsBelow b p t s (suc place) lints =
    (before : Lints) × (own : Lints) × (lints ≡ before ++ own)
    × AreLintsBelow b p t s place before
    × AreLintsAt b p t s place (slice_get p place) (row_of t place) own

-- the lints of a program with a table, from what is sure of its rails
pub record AreLints (b : Board) (p : List Instr) (t : Table) (lints : Lints) : Type 0 where
  pub states : PowerStates
  pub wide : IsInductive b p t → IsWide b p (may_be_on states)
  pub sure : IsInductive b p t → IsSure b p (has_voltage states)
  pub told : AreLintsBelow b p t states (length p) lints
