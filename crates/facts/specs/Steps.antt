-- One step from a row whose duties are met: what is said of it, and of whole runs.
use Rattle.std.specs.Prelude.{◌≡◌, ℕ, ◌≤◌, ◌⊎◌, IsTrue, List, ◌∷◌, slice_get, Some, IfSome}
use Rattle.smbus.specs.Answered.{Answered}
use Rattle.board.specs.Boards.{Board}
use Rattle.board.specs.Valid.{IsBoard}
use Rattle.seq_program.specs.declared.instr.Instr.{Instr}
use Rattle.seq_program.specs.Messages.{message_of}
use Rattle.seq_program.specs.Programs.{is_end}
use Rattle.seq_program.specs.Valid.{IsInstr, IsProgram}
use Rattle.targets.specs.SomeAnswer.{IsMessage}
use Rattle.simulator.specs.declared.machine.Ending.TheVariants.{Running}
use Rattle.simulator.specs.Machines.{Machine, Entry}
use Rattle.simulator.specs.Safe.{IsSafe}
use Rattle.simulator.specs.StepLaws.{IsReady}
use Rattle.simulator.specs.Steps.{IsStepOf}
use Rattle.facts.specs.declared.duties.rule.Rule.{Rule}
use Rattle.facts.specs.domain.Rows.{Row, Admits, IsRow, left_of, rank}
use Rattle.facts.specs.duties.Duties.{Meets}
use Rattle.facts.specs.transfer.Edges.{Edge}
use Rattle.facts.specs.transfer.Ticks.{own_ticks}
use Rattle.facts.specs.transfer.TimedEdges.{HasTimed, timed_edges}

-- a machine after a step of so many ticks: an edge with as many leads to its place, with a row that
-- admits it and no more ticks left
pub record Leads (b : Board) (place : ℕ) (i : Instr) (row : Row) (m : Machine) (next : Machine)
    (history : List Entry) (ticks : ℕ) : Type 0 where
  pub by : Edge
  pub most : ℕ
  pub there : HasTimed (timed_edges b place i row) by most
  pub within : ticks ≤ most
  pub to : next.place ≡ by.to
  pub admits : Admits b by.row next history
  pub falls : rank by.row next.counters (left_of b next.bus)
      ≤ rank row m.counters (left_of b m.bus)

-- a machine before a step: its row, whose duties are met
pub record Stands (b : Board) (p : List Instr) (i : Instr) (row : Row) (m : Machine)
    (history : List Entry) : Type 0 where
  pub board : IsBoard b
  pub program : IsProgram p
  pub here : slice_get p m.place ≡ Some i
  pub shaped : IsRow b row
  pub ready : IsReady b p m
  pub admits : Admits b row m history
  pub running : m.ended ≡ Running
  pub duties : (rule : Rule) → Meets b row i rule

-- a safe entry, and an end within its ticks or an edge within its own
pub record IsSoundStep (b : Board) (i : Instr) (row : Row) (m : Machine) (history : List Entry)
    (e : Entry) (next : Machine) : Type 0 where
  pub safe : IsSafe b history e
  pub goes : (((next.ended ≡ Running → ⊥) × IsTrue (is_end i) × (e.ticks ≤ own_ticks b i))
      ⊎ ((next.ended ≡ Running) × Leads b m.place i row m next (e ∷ history) e.ticks))

abbrev pub StepsAreSound : Type 0
StepsAreSound =
    (b : Board) (p : List Instr) (i : Instr) (row : Row) (m : Machine) (history : List Entry)
    (a : Answered) (e : Entry) (next : Machine)
    → Stands b p i row m history → IsStepOf b i (message_of b i m.regs) m a e next
    → IsSoundStep b i row m history e next

-- an instruction whose duties are met sends a message that targets can answer, if it sends one
abbrev pub MetDutiesSend : Type 0
MetDutiesSend =
    (b : Board) (row : Row) (i : Instr) (regs : List ℕ) → IsBoard b → IsInstr i
    → ((rule : Rule) → Meets b row i rule) → IfSome (message_of b i regs) (λ m. IsMessage b m)
