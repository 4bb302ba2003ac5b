-- What a table that keeps the rule book says of each machine within a run.
use Rattle.std.specs.Prelude.{◌≡◌, ◌∷◌, ◌⊎◌, [], List, Some}
use Rattle.smbus.specs.Answered.{Answered}
use Rattle.board.specs.Boards.{Board}
use Rattle.board.specs.Valid.{IsBoard}
use Rattle.targets.specs.States.{BusState, IsStart}
use Rattle.seq_program.specs.declared.instr.Instr.{Instr}
use Rattle.seq_program.specs.Valid.{IsProgram}
use Rattle.simulator.specs.declared.machine.Ending.TheVariants.{Running}
use Rattle.simulator.specs.Machines.{Machine, Entry, start_at}
use Rattle.simulator.specs.StepLaws.{IsReady}
use Rattle.simulator.specs.Steps.{IsStep}
use Rattle.facts.specs.domain.Rows.{Row, Admits}
use Rattle.table_check.specs.Tables.{Table, row_of}
use Rattle.table_check.specs.checker.Obligations.{IsInductive}

-- its place has a row, which admits it after these steps, the newest first
pub record HasRow (b : Board) (t : Table) (m : Machine) (history : List Entry) : Type 0 where
  pub row : Row
  pub there : row_of t m.place ≡ Some row
  pub admits : Admits b row m history

-- a machine that has ended, or has such a row
pub record IsAdmitted (b : Board) (p : List Instr) (t : Table) (m : Machine)
    (history : List Entry) : Type 0 where
  pub ready : IsReady b p m
  pub stands : (m.ended ≡ Running → ⊥) ⊎ HasRow b t m history

abbrev pub StartsAreAdmitted : Type 0
StartsAreAdmitted =
    (b : Board) (p : List Instr) (t : Table) (s : BusState) → IsBoard b → IsProgram p
    → IsInductive b p t → IsStart b s → IsAdmitted b p t (start_at s) []

-- and so it goes on, whatever the targets answer
abbrev pub StepsStayAdmitted : Type 0
StepsStayAdmitted =
    (b : Board) (p : List Instr) (t : Table) (m next : Machine) (history : List Entry)
    (a : Answered) (e : Entry) → IsBoard b → IsProgram p → IsInductive b p t
    → IsAdmitted b p t m history → IsStep b p m a e next → IsAdmitted b p t next (e ∷ history)
