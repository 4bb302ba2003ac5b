-- What a step of the model is seen to do.
use Rattle.std.specs.Prelude.{◌≡◌, ◌<◌, ◌≤◌, List, [], length, slice_get}
use Rattle.std.specs.Prelude.{Option, Some, None, All}
use Rattle.wires.specs.Events.{events_of}
use Rattle.smbus.specs.Asked.{Asked}
use Rattle.smbus.specs.Answered.{Answered}
use Rattle.smbus.specs.Contenders.{Contender, contender_samples, contender_frame}
use Rattle.smbus.specs.Winners.{winner, carried}
use Rattle.smbus.specs.OneFrame.{IsOnlyFrame}
use Rattle.smbus.specs.Frames.{AreFrames}
use Rattle.smbus.specs.MessageFrame.{AreAsked, ReadsNoBlock}
use Rattle.pmbus_table.specs.Codes.{status_word_code}
use Rattle.board.specs.Boards.{Board}
use Rattle.board.specs.Valid.{IsBoard}
use Rattle.targets.specs.States.{BusState, IsStart}
use Rattle.targets.specs.Fitting.{MayContend}
use Rattle.seq_program.specs.declared.instr.Instr.{Instr}
use Rattle.seq_program.specs.Messages.{message_of}
use Rattle.seq_program.specs.Valid.{IsProgram}
use Rattle.smbus.specs.Slots.{samples_of}
use Rattle.simulator.specs.Entries.{IsEntry}
use Rattle.simulator.specs.ForeignTicks.{foreign_ticks}
use Rattle.simulator.specs.EntryLaws.{ReadsOne}
use Rattle.simulator.specs.Does.{DoesAsAsked}
use Rattle.simulator.specs.Machines.{Machine, Entry, IsMachine, start_at}
use Rattle.simulator.specs.Steps.{alert_level, IsStep}
use Rattle.simulator.specs.StepDoes.{StepDoes}

-- a machine of the board and the program whose registers are words
pub record IsReady (b : Board) (p : List Instr) (m : Machine) : Type 0 where
  pub machine : IsMachine b p m
  pub words : All (λ word. word < 65536) m.regs

-- the samples are those of the message and the answer, which are bytes on the wire; so they have
-- its one frame, and what they are seen to do is what was asked and answered
pub record CarriesMessage (s : BusState) (m : Asked) (a : Answered) (e : Entry) : Type 0 where
  pub asked : AreAsked m a
  pub samples : e.samples ≡ samples_of (alert_level s) m a
  pub reads : ReadsOne m a (alert_level s)
  pub does : DoesAsAsked m a (alert_level s)
  -- STATUS_WORD isn't read by a Block Read, whose frame could look like that of a Read Word
  pub no_block : ReadsNoBlock status_word_code m

-- the samples are those of another controller that the board lets start; so they have its one
-- frame, and no more ticks than the longest of them
pub record CarriesForeign (b : Board) (s : BusState) (c : Contender) (e : Entry) : Type 0 where
  pub may : MayContend b c
  pub may_lose : 0 < b.contentions
  pub samples : e.samples ≡ contender_samples (alert_level s) c
  pub is_only : IsOnlyFrame (events_of e.samples) (contender_frame c)
  pub few : length e.samples ≤ foreign_ticks b

-- what a message's step carries, from who wins over it
abbrev pub CarriesOver : Option Contender → Board → BusState → Asked → Answered → Entry → Type 0
CarriesOver None b s m a e = CarriesMessage s m a e
CarriesOver (Some c) b s m a e = CarriesForeign b s c e

-- without a message no frame is seen
abbrev pub Carries : Board → BusState → Option Asked → Answered → Entry → Type 0
Carries b s None a e = AreFrames (events_of e.samples) []
Carries b s (Some m) a e = CarriesOver (winner m a) b s m a e

pub record StepIsSeen (b : Board) (p : List Instr) (m : Machine) (a : Answered) (e : Entry)
    (next : Machine) : Type 0 where
  pub instr : Instr
  pub here : slice_get p m.place ≡ Some instr
  pub carries : Carries b m.bus (message_of b instr m.regs) a e
  -- what the wire carries of the message, and the answer, tell what it is seen to write, report and
  -- withdraw
  pub does : StepDoes b m.bus (carried (message_of b instr m.regs) a) a e
  -- the lines are idle before it, and free after it
  pub entry : IsEntry e.samples
  pub ready : IsReady b p next

-- every step of a machine that is ready
abbrev pub StepsAreSeen : Type 0
StepsAreSeen = (b : Board) (p : List Instr) (m next : Machine) (a : Answered) (e : Entry)
    → IsBoard b → IsProgram p → IsReady b p m → IsStep b p m a e next → StepIsSeen b p m a e next

-- and where a run may start it is
abbrev pub StartsAreReady : Type 0
StartsAreReady = (b : Board) (p : List Instr) (s : BusState) → IsBoard b → IsProgram p
    → IsStart b s → IsReady b p (start_at s)

-- there is such a step, and it sends a message
pub record SomeStepIsTaken : Type 0 where
  pub board : Board
  pub program : List Instr
  pub machine : Machine
  pub answer : Answered
  pub entry : Entry
  pub next : Machine
  pub is_board : IsBoard board
  pub is_program : IsProgram program
  pub ready : IsReady board program machine
  pub step : IsStep board program machine answer entry next
  pub message : Asked
  pub sends : message_of board step.instr machine.regs ≡ Some message
