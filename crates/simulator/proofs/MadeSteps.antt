-- A step from what was computed for it.
use Rattle.std.proofs.Common.{◌≡◌, ℕ, Option, Some, None, List, length, option_map, IfSome, refl}
use Rattle.std.proofs.Common.{sym, ap, subst, ◌∙◌, slice_get}
use Rattle.wires.specs.declared.lines.Sample.{Sample}
use Rattle.bit_bus.specs.Word.{ReadsBack}
use Rattle.smbus.specs.Asked.{Asked}
use Rattle.smbus.specs.Answered.{Answered}
use Rattle.smbus.specs.ContenderLaws.{ContendersHaveOneFrame}
use Rattle.smbus.specs.Winners.{winner}
use Rattle.smbus.specs.OneFrame.{SlotsAreOneFrame}
use Rattle.board.specs.Boards.{Board}
use Rattle.targets.specs.declared.outcome.Outcome.{Outcome}
use Rattle.targets.specs.Outcomes.{outcome_of}
use Rattle.targets.specs.Fitting.{FitsStep}
use Rattle.targets.specs.Effects.{IsAfterStep}
use Rattle.targets.specs.States.{BusState}
use Rattle.seq_program.specs.declared.instr.Instr.{Instr}
use Rattle.seq_program.specs.Messages.{message_of}
use Rattle.simulator.specs.declared.machine.Ending.TheVariants.{Running}
use Rattle.simulator.specs.Machines.{Machine, Entry}
use Rattle.simulator.specs.Moves.{moved}
use Rattle.simulator.specs.Steps.{step_samples, sent_outcome, step_entry, IsStepOf, IsStep}
use Rattle.simulator.specs.Standing.{CanStand}
use Rattle.simulator.specs.Traces.{HasItsFrame}
use Rattle.simulator.proofs.Seen.{silent_seen, message_seen}

pub moved_bus : (i : Instr) (o : Option Asked) (outcome : Outcome) (new : BusState) (m : Machine)
    → (moved i o outcome new m).bus ≡ new
moved_bus i None outcome new m = refl
moved_bus i (Some asked) outcome new m = refl

-- the outcome of a message, if there is one
pub outcome_if : {X : Type 0} (f : X → Asked) (o : Option X) (outcome : Outcome) (a : Answered)
    → outcome ≡ outcome_of (option_map f o) a
    → option_map (λ (x : X). outcome) o ≡ sent_outcome (option_map f o) a
outcome_if f None outcome a e = refl
outcome_if f (Some x) outcome a e = ap (λ (r : Outcome). Some r) e

abbrev pub entry_from : ℕ → BusState → List Sample → Option Outcome → ℕ → Entry
entry_from place before samples outcome ticks =
    record { place = place; before = before; samples = samples; outcome = outcome; ticks = ticks }

pub same_entry : (i : Instr) (o : Option Asked) (a : Answered) (m : Machine) (place : ℕ)
    (before : BusState) (samples : List Sample) (outcome : Option Outcome) (ticks : ℕ)
    → place ≡ m.place → before ≡ m.bus → samples ≡ step_samples m.bus i o a
    → outcome ≡ sent_outcome o a → ticks ≡ length samples
    → entry_from place before samples outcome ticks ≡ step_entry i o a m
same_entry i o a m place before samples outcome ticks p b s r t =
    ap (λ (x : ℕ). entry_from x before samples outcome ticks) p
    ∙ ap (λ (x : BusState). entry_from m.place x samples outcome ticks) b
    ∙ ap (λ (x : ℕ). entry_from m.place m.bus samples outcome x) t
    ∙ ap (λ (x : List Sample). entry_from m.place m.bus x outcome (length x)) s
    ∙ ap (λ (x : Option Outcome).
    entry_from m.place m.bus (step_samples m.bus i o a) x (length (step_samples m.bus i o a))) r

pub made_step : (b : Board) (i : Instr) (o : Option Asked) (m : Machine) (a : Answered)
    (bus : BusState) (outcome : Outcome) (next : Machine) (e : Entry)
    → FitsStep b m.bus o a → IsAfterStep b m.bus o a bus → outcome ≡ outcome_of o a
    → next ≡ moved i o outcome bus m → e ≡ step_entry i o a m → IsStepOf b i o m a e next
made_step b i o m a bus outcome next e fits after ends goes is =
    let same : next.bus ≡ bus = ap (λ (x : Machine). x.bus) goes ∙ moved_bus i o outcome bus m in
    record {
      fits = fits;
      bus = subst (λ (x : BusState). IsAfterStep b m.bus o a x) (sym same) after;
      next_is =
          goes ∙ ap (λ (x : Outcome). moved i o x bus m) ends
          ∙ ap (λ (x : BusState). moved i o (outcome_of o a) x m) (sym same);
      entry_is = is;
    }

pub seen_entry : (i : Instr) (o : Option Asked) (a : Answered) (m : Machine) → ReadsBack
    → SlotsAreOneFrame → ContendersHaveOneFrame
    → IfSome o (λ asked. CanStand (winner asked a) asked a) → HasItsFrame (step_entry i o a m)
seen_entry i None a m reads slots others can = silent_seen i a m
seen_entry i (Some asked) a m reads slots others can =
    message_seen i asked a m reads slots others can

-- the step of the instruction at a running machine's place
pub step_here : (b : Board) (p : List Instr) (i : Instr) (o : Option Asked) (m : Machine)
    (a : Answered) (e : Entry) (next : Machine)
    → m.ended ≡ Running → slice_get p m.place ≡ Some i → o ≡ message_of b i m.regs
    → IsStepOf b i o m a e next → IsStep b p m a e next
step_here b p i o m a e next running here asked step = record {
  running = running;
  instr = i;
  here = here;
  step = subst (λ (x : Option Asked). IsStepOf b i x m a e next) asked step;
}
