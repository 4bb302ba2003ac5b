-- What holds of every run of a program that is safe within a bound.
use Rattle.std.specs.Prelude.{◌≡◌, ◌≤◌, ℕ, List, [], ◌∷◌, ◌++◌, slice_get, Some, All}
use Rattle.wires.specs.Events.{events_of}
use Rattle.bit_bus.specs.Levels.{EndsHigh}
use Rattle.smbus.specs.Answered.{Answered}
use Rattle.smbus.specs.Shown.{Shown}
use Rattle.smbus.specs.Frames.{AreFrames}
use Rattle.board.specs.Boards.{Board}
use Rattle.targets.specs.States.{BusState, IsStart}
use Rattle.targets.specs.SomeAnswer.{HasAnswer}
use Rattle.seq_program.specs.declared.instr.Instr.{Instr}
use Rattle.seq_program.specs.Messages.{message_of}
use Rattle.simulator.specs.declared.machine.Ending.TheVariants.{Running}
use Rattle.simulator.specs.Machines.{Machine, Entry, start_at}
use Rattle.simulator.specs.Steps.{IsRun, run_samples, total_ticks}
use Rattle.simulator.specs.Allowed.{MayStand}
use Rattle.simulator.specs.Safe.{AreSafe}

-- the frames of steps in order, each of which may stand on the lines of its step: the targets allow
-- it in the state before the step, or it is another controller's
abbrev pub AreAllowedFrames : Board → List Entry → List Shown → Type 0
AreAllowedFrames b [] frames = frames ≡ []
AreAllowedFrames b (e ∷ later) frames =
    (own : List Shown) × (rest : List Shown) × (frames ≡ own ++ rest)
    × AreFrames (events_of e.samples) own
    × All (MayStand b e.before e.samples) own × AreAllowedFrames b later rest

-- the lines of the whole run are read as these frames, and as no others
pub record ReadsAllowed (b : Board) (entries : List Entry) : Type 0 where
  pub frames : List Shown
  pub read : AreFrames (events_of (run_samples entries)) frames
  pub only : (others : List Shown) → AreFrames (events_of (run_samples entries)) others
      → others ≡ frames
  pub allowed : AreAllowedFrames b entries frames

-- the machine isn't stuck: at its place stands an instruction, to which the targets can answer
pub record GoesOn (b : Board) (p : List Instr) (m : Machine) : Type 0 where
  pub instr : Instr
  pub here : slice_get p m.place ≡ Some instr
  pub answer : HasAnswer b m.bus (message_of b instr m.regs)

pub record IsSafeWithin (b : Board) (p : List Instr) (bound : ℕ) (entries : List Entry)
    (last : Machine) : Type 0 where
  pub safe : AreSafe b [] entries
  pub frames : ReadsAllowed b entries
  pub bounded : total_ticks entries ≤ bound
  pub each_tick : All (λ e. 1 ≤ e.ticks) entries
  pub high : All (λ e. EndsHigh e.samples) entries
  pub goes_on : last.ended ≡ Running → GoesOn b p last

-- whatever the targets answer within the board's ranges, from every start that the board names
abbrev pub RunsAreSafe : Board → List Instr → ℕ → Type 0
RunsAreSafe b p bound =
    (s : BusState) (answers : List Answered) (entries : List Entry) (last : Machine)
    → IsStart b s → IsRun b p (start_at s) answers entries last
    → IsSafeWithin b p bound entries last
