-- Steps of a program on a board, and runs: lists of steps.
use Rattle.std.specs.Prelude.{◌≡◌, ◌+◌, ◌==◌, ℕ, suc, Bool, List, [], ◌∷◌, length, map, slice_get}
use Rattle.std.specs.Prelude.{Option, Some, None, option_map}
use Rattle.wires.specs.declared.lines.Sample.{Sample}
use Rattle.smbus.specs.Asked.{Asked}
use Rattle.smbus.specs.Answered.{Answered}
use Rattle.smbus.specs.Contenders.{Contender, contender_samples}
use Rattle.smbus.specs.Winners.{winner}
use Rattle.board.specs.Boards.{Board}
use Rattle.targets.specs.States.{BusState}
use Rattle.targets.specs.Fitting.{FitsStep}
use Rattle.targets.specs.declared.outcome.Outcome.{Outcome}
use Rattle.targets.specs.Outcomes.{outcome_alone, outcome_of}
use Rattle.targets.specs.Effects.{IsAfterStep}
use Rattle.seq_program.specs.declared.instr.Instr.{Instr}
use Rattle.seq_program.specs.declared.instr.Instr.TheVariants.{Wait}
use Rattle.seq_program.specs.Messages.{message_of}
use Rattle.simulator.specs.declared.machine.Ending.TheVariants.{Running}
use Rattle.smbus.specs.Slots.{samples_of}
use Rattle.simulator.specs.Entries.{idle_samples, joined}
use Rattle.simulator.specs.Machines.{Machine, Entry}
use Rattle.simulator.specs.Moves.{moved}

-- SMBALERT# is high where no target pulls it low
abbrev pub alert_level : BusState → Bool
alert_level s = s.alerting == 0

-- for how many ticks more than one an instruction waits
abbrev pub idle_ticks : Instr → ℕ
idle_ticks (Wait ticks) = ticks
idle_ticks _ = 0

-- the lines where a message is sent: an idle sample, and its frame, or that of the controller that
-- wins over it (UM10204, 3.1.8)
abbrev pub samples_over : Option Contender → BusState → Asked → Answered → List Sample
samples_over None s m a = samples_of (alert_level s) m a
samples_over (Some c) s m a = contender_samples (alert_level s) c

-- the lines in a step: those of its message, or idle samples
abbrev pub step_samples : BusState → Instr → Option Asked → Answered → List Sample
step_samples s i None a = idle_samples (alert_level s) (suc (idle_ticks i))
step_samples s i (Some message) a = samples_over (winner message a) s message a

-- how its message ends
abbrev pub sent_outcome : Option Asked → Answered → Option Outcome
sent_outcome None a = None
sent_outcome (Some message) a = Some (outcome_of (Some message) a)

abbrev pub step_entry : Instr → Option Asked → Answered → Machine → Entry
step_entry i message a m =
    record {
      place = m.place;
      before = m.bus;
      samples = step_samples m.bus i message a;
      outcome = sent_outcome message a;
      ticks = length (step_samples m.bus i message a);
    }

-- the lines, and the entry, where no other controller wins
abbrev pub samples_alone : BusState → Instr → Option Asked → Answered → List Sample
samples_alone s i None a = idle_samples (alert_level s) (suc (idle_ticks i))
samples_alone s i (Some message) a = samples_of (alert_level s) message a

abbrev pub entry_alone : Instr → Option Asked → Answered → Machine → Entry
entry_alone i message a m =
    record {
      place = m.place;
      before = m.bus;
      samples = samples_alone m.bus i message a;
      outcome = option_map (λ (asked : Asked). outcome_alone (Some asked) a) message;
      ticks = length (samples_alone m.bus i message a);
    }

-- the step of an instruction that sends this message, or none, under an answer that fits
pub record IsStepOf (b : Board) (i : Instr) (message : Option Asked) (m : Machine) (a : Answered)
    (e : Entry) (next : Machine) : Type 0 where
  pub fits : FitsStep b m.bus message a
  pub bus : IsAfterStep b m.bus message a next.bus
  pub next_is : next ≡ moved i message (outcome_of message a) next.bus m
  pub entry_is : e ≡ step_entry i message a m

-- a step of a machine that runs, by the instruction at its place
pub record IsStep (b : Board) (p : List Instr) (m : Machine) (a : Answered) (e : Entry)
    (next : Machine) : Type 0 where
  pub running : m.ended ≡ Running
  pub instr : Instr
  pub here : slice_get p m.place ≡ Some instr
  pub step : IsStepOf b instr (message_of b instr m.regs) m a e next

-- a run: a step for each answer
abbrev pub IsRun : Board → List Instr → Machine → List Answered → List Entry → Machine → Type 0
IsRun b p m [] [] last = last ≡ m
IsRun b p m (a ∷ answers) (e ∷ entries) last =
    (next : Machine) × IsStep b p m a e next × IsRun b p next answers entries last
IsRun b p m answers entries last = ⊥

-- how long a run takes
abbrev pub total_ticks : List Entry → ℕ
total_ticks [] = 0
total_ticks (e ∷ entries) = e.ticks + total_ticks entries

-- the samples of a run, step after step
abbrev pub run_samples : List Entry → List Sample
run_samples entries = joined (map (λ (e : Entry). e.samples) entries)
