-- Runs that break a rule.
use Rattle.std.specs.Prelude.{◌≡◌, ◌+◌, ◌≤◌, ℕ, List, [], ◌∷◌, ◌++◌, length, reverse, slice_get}
use Rattle.std.specs.Prelude.{Some, All}
use Rattle.smbus.specs.Answered.{Answered}
use Rattle.board.specs.Boards.{Board}
use Rattle.targets.specs.States.{BusState, IsStart}
use Rattle.seq_program.specs.declared.instr.Instr.{Instr}
use Rattle.simulator.specs.declared.machine.Ending.TheVariants.{Running}
use Rattle.simulator.specs.Faults.{most_ticks}
use Rattle.simulator.specs.Machines.{Machine, Entry, start_at, start_state}
use Rattle.simulator.specs.Steps.{IsRun, IsStep, total_ticks}
use Rattle.facts.specs.domain.Sets.{Set}
use Rattle.bundles.specs.AnswerTexts.{CanBeSaid}
use Rattle.run_monitor.specs.declared.breach.Breach.{Breach}
use Rattle.run_monitor.specs.declared.monitor.Monitor.{Monitor}
use Rattle.run_monitor.specs.Known.{Knows, IsBreach}
use Rattle.run_monitor.specs.Monitors.{HasSeen}
use Rattle.breach_search.specs.declared.harm.Harm.{Harm}

-- from this state a run comes to the last of its answers, where the instruction breaks this rule
-- before all others
pub record BreaksAtLast (b : Board) (p : List Instr) (s : BusState) (answers : List Answered)
    (x : Breach) : Type 0 where
  pub may_start : IsStart b s
  pub before : List Answered
  pub last : Answered
  pub answers_are : answers ≡ before ++ last ∷ []
  pub entries : List Entry
  pub machine : Machine
  pub run : IsRun b p (start_at s) before entries machine
  pub running : machine.ended ≡ Running
  pub index : x.index ≡ length before
  pub place : x.place ≡ machine.place
  pub instr : Instr
  pub here : slice_get p machine.place ≡ Some instr
  pub good : Set
  pub knows : Knows b (reverse entries) good
  pub breach : IsBreach b good machine instr (Some x.rule)
  -- the last answer has a step too, so that these answers are a whole run
  pub entry : Entry
  pub next : Machine
  pub step : IsStep b p machine last entry next
  pub within : total_ticks entries + entry.ticks ≤ most_ticks
  -- and a text can say them
  pub said : All CanBeSaid answers

-- what is found: such a run from a start of the board
abbrev pub IsHarm : Board → List Instr → Harm → Type 0
IsHarm b p x =
    BreaksAtLast b p (start_state x.pages.items x.protects.items) x.answers.items x.breach

-- a step that is made under an answer that can be said, where so many ticks stand before it, and
-- what a monitor has seen of it
pub record IsWatchedStep (b : Board) (p : List Instr) (m : Machine) (a : Answered)
    (index ticks : ℕ) (old new : Monitor) (e : Entry) (next : Machine) : Type 0 where
  pub said : CanBeSaid a
  pub seen : HasSeen b p m a index old new
  pub step : IsStep b p m a e next
  pub within : ticks + e.ticks ≤ most_ticks
