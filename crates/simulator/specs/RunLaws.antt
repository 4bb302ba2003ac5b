-- What a run of the model is seen to do.
use Rattle.std.specs.Prelude.{◌≡◌, ◌+◌, ℕ, List, [], ◌∷◌, ◌++◌, take, slice_get, Option, Some, None}
use Rattle.wires.specs.declared.lines.Sample.{Sample}
use Rattle.wires.specs.Events.{events_of}
use Rattle.bit_bus.specs.Levels.{HasTimeout}
use Rattle.smbus.specs.Asked.{Asked}
use Rattle.smbus.specs.Answered.{Answered}
use Rattle.smbus.specs.Contenders.{Contender, contender_frame}
use Rattle.smbus.specs.Winners.{winner}
use Rattle.smbus.specs.Shown.{Shown}
use Rattle.smbus.specs.Frames.{AreFrames}
use Rattle.smbus.specs.Whole.{IsWhole, IsRefused, IsBrokenOff}
use Rattle.board.specs.Boards.{Board}
use Rattle.board.specs.Valid.{IsBoard}
use Rattle.targets.specs.declared.outcome.Outcome.{Outcome}
use Rattle.targets.specs.declared.outcome.Outcome.TheVariants.{Done, NotAcknowledged, TimedOut}
use Rattle.targets.specs.declared.outcome.Outcome.TheVariants.{Lost}
use Rattle.targets.specs.Outcomes.{outcome_alone}
use Rattle.seq_program.specs.declared.instr.Instr.{Instr}
use Rattle.seq_program.specs.Messages.{message_of}
use Rattle.seq_program.specs.Valid.{IsProgram}
use Rattle.simulator.specs.Entries.{all_frames}
use Rattle.simulator.specs.Machines.{Machine, Entry}
use Rattle.simulator.specs.Steps.{IsStep, IsRun, total_ticks, run_samples}
use Rattle.simulator.specs.StepLaws.{IsReady}

-- a frame is whole where its message is done, and broken off otherwise: in a refused byte, or where
-- the samples hold SCL low for too long
abbrev pub IsFrameOf : List Sample → Asked → Answered → Outcome → Shown → Type 0
IsFrameOf samples m a (Done value) f = IsWhole m a.value a.bytes f
IsFrameOf samples m a NotAcknowledged f = IsRefused m a.value a.bytes f
IsFrameOf samples m a TimedOut f =
    HasTimeout samples × IsBrokenOff samples m a.value a.bytes f
IsFrameOf samples m a Lost f = ⊥

-- the frame of a message, or that of the controller that wins over it
abbrev pub IsFrameOver : Option Contender → List Sample → Asked → Answered → Shown → Type 0
IsFrameOver None samples m a f = IsFrameOf samples m a (outcome_alone (Some m) a) f
IsFrameOver (Some c) samples m a f = f ≡ contender_frame c

-- the frame that stands for a step's message; none without one
abbrev pub AreStepFrames : List Sample → Option Asked → Answered → List Shown → Type 0
AreStepFrames samples None a frames = frames ≡ []
AreStepFrames samples (Some m) a frames =
    (f : Shown) × (frames ≡ f ∷ []) × IsFrameOver (winner m a) samples m a f

pub record StepHasFrames (b : Board) (p : List Instr) (m : Machine) (a : Answered) (e : Entry)
    (next : Machine) (frames : List Shown) : Type 0 where
  pub step : IsStep b p m a e next
  pub instr : Instr
  pub here : slice_get p m.place ≡ Some instr
  pub read : AreFrames (events_of e.samples) frames
  pub are : AreStepFrames e.samples (message_of b instr m.regs) a frames

-- the frames of each step of a run
abbrev pub AreRunFrames : Board → List Instr → Machine → List Answered → List Entry
    → List (List Shown) → Type 0
AreRunFrames b p m [] [] [] = Unit {0}
AreRunFrames b p m (a ∷ answers) (e ∷ entries) (fs ∷ frames) =
    (next : Machine) × StepHasFrames b p m a e next fs
    × AreRunFrames b p next answers entries frames
AreRunFrames b p m answers entries frames = ⊥

-- the lines of the whole run are read as the frames of its steps in order, and as no others
pub record RunIsSeen (b : Board) (p : List Instr) (m : Machine) (answers : List Answered)
    (entries : List Entry) (last : Machine) : Type 0 where
  pub frames : List (List Shown)
  pub steps : AreRunFrames b p m answers entries frames
  pub read : AreFrames (events_of (run_samples entries)) (all_frames frames)
  pub only : (others : List Shown) → AreFrames (events_of (run_samples entries)) others
      → others ≡ all_frames frames
  pub ready : IsReady b p last

-- every run from a machine that is ready
abbrev pub RunsAreSeen : Type 0
RunsAreSeen =
    (b : Board) (p : List Instr) (m last : Machine) (answers : List Answered)
    (entries : List Entry)
    → IsBoard b → IsProgram p → IsReady b p m → IsRun b p m answers entries last
    → RunIsSeen b p m answers entries last

-- a machine has one step under an answer
abbrev pub StepsAreOne : Type 0
StepsAreOne =
    (b : Board) (p : List Instr) (m : Machine) (a : Answered) (e other : Entry)
    (next end : Machine) → IsStep b p m a e next → IsStep b p m a other end
    → (e ≡ other) × (next ≡ end)

-- and one run under answers
abbrev pub RunsAreOne : Type 0
RunsAreOne =
    (b : Board) (p : List Instr) (m : Machine) (answers : List Answered)
    (entries others : List Entry) (last end : Machine)
    → IsRun b p m answers entries last → IsRun b p m answers others end
    → (entries ≡ others) × (last ≡ end)

-- the run of the answers before an index and the step of the answer there are the run up to it
abbrev pub RunsGoOn : Type 0
RunsGoOn =
    (b : Board) (p : List Instr) (m mid last : Machine) (answers : List Answered)
    (entries : List Entry) (index : ℕ) (a : Answered) (e : Entry)
    → slice_get answers index ≡ Some a
    → IsRun b p m (take index answers) entries mid → IsStep b p mid a e last
    → IsRun b p m (take (index + 1) answers) (entries ++ e ∷ []) last

-- and take the ticks of both
abbrev pub TicksAddUp : Type 0
TicksAddUp =
    (entries : List Entry) (e : Entry)
    → total_ticks entries + e.ticks ≡ total_ticks (entries ++ e ∷ [])
