-- What is promised of the power of rails at the places of a program.
use Rattle.std.specs.Prelude.{◌≡◌, ℕ, ◌&&◌, not, List, map, reverse, IsTrue}
use Rattle.smbus.specs.Answered.{Answered}
use Rattle.board.specs.Boards.{Board}
use Rattle.targets.specs.States.{BusState, IsStart}
use Rattle.seq_program.specs.declared.instr.Instr.{Instr}
use Rattle.simulator.specs.declared.machine.Ending.TheVariants.{Running}
use Rattle.simulator.specs.Machines.{Machine, Entry, start_at}
use Rattle.simulator.specs.Steps.{IsRun}
use Rattle.facts.specs.domain.Rows.{set_at}
use Rattle.facts.specs.domain.Sets.{Set, is_rail, rails_in}
use Rattle.program_lints.specs.declared.power.PowerStates.{PowerStates}
use Rattle.program_lints.specs.Power.{IsOn, HasVoltage}

-- the sets of the code
abbrev pub sets_in : List ℕ → List Set
sets_in sets = map rails_in sets

abbrev pub may_be_on : PowerStates → ℕ → Set
may_be_on s place = λ d. is_rail d && not (set_at (sets_in s.off.items) place d)

abbrev pub has_voltage : PowerStates → ℕ → Set
has_voltage s place = set_at (sets_in s.voltages.items) place

-- a rail that is on in some run that stands at a place is in the set of the place
abbrev pub IsWide : Board → List Instr → (ℕ → Set) → Type 0
IsWide b p on =
    (s : BusState) (answers : List Answered) (entries : List Entry) (last : Machine) (d : ℕ)
    → IsStart b s → IsRun b p (start_at s) answers entries last → last.ended ≡ Running
    → IsOn b (reverse entries) d → IsTrue (on last.place d)

-- in each run that stands at a place, a voltage was written to the rails in the set of the place
abbrev pub IsSure : Board → List Instr → (ℕ → Set) → Type 0
IsSure b p voltages =
    (s : BusState) (answers : List Answered) (entries : List Entry) (last : Machine) (d : ℕ)
    → IsStart b s → IsRun b p (start_at s) answers entries last → last.ended ≡ Running
    → IsTrue (voltages last.place d) → HasVoltage b (reverse entries) d
