-- What a step tells of a rail.
use Rattle.std.specs.Prelude.{◌≡◌, ◌↔◌, ◌∷◌, ℕ, Bool, false, IsTrue, List, Option}
use Rattle.smbus.specs.Asked.{Asked}
use Rattle.smbus.specs.Answered.{Answered}
use Rattle.pmbus_table.specs.Codes.{operation_code}
use Rattle.pmbus_table.specs.Operation.{enables}
use Rattle.board.specs.Boards.{Board}
use Rattle.targets.specs.States.{BusState}
use Rattle.simulator.specs.Machines.{Entry}
use Rattle.simulator.specs.Reports.{IsReportedGood}
use Rattle.simulator.specs.StepDoes.{StepDoes, MessageWritesByte}

-- a value that doesn't enable went out to OPERATION (PMBus 1.3 Part II, 12.1)
pub record TurnsOff (address : ℕ) (m : Asked) (a : Answered) : Type 0 where
  pub value : ℕ
  pub written : MessageWritesByte address operation_code value m a
  pub off : enables value ≡ false

-- whether the rail's last report is good after the step, from whether it was before
abbrev pub TellsAfter : Board → BusState → Option Asked → Answered → ℕ → Bool → Bool → Type 0
TellsAfter b s message a d before after =
    (history : List Entry) (e : Entry) → StepDoes b s message a e
    → IsTrue before ↔ IsReportedGood b history d
    → IsTrue after ↔ IsReportedGood b (e ∷ history) d
