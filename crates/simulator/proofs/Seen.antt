-- What is read back from the samples of a step.
use Rattle.std.proofs.Common.{◌≡◌, ℕ, zero, suc, Bool, Option, Some, None, [], ◌∷◌, refl}
use Rattle.wires.specs.Events.{events_of}
use Rattle.bit_bus.specs.Levels.{idle, levels}
use Rattle.bit_bus.specs.Word.{event_word, ReadsBack}
use Rattle.smbus.specs.Asked.{Asked}
use Rattle.smbus.specs.Answered.{Answered}
use Rattle.smbus.specs.Contenders.{Contender, contender_plan, contender_samples}
use Rattle.smbus.specs.Contenders.{contender_frame}
use Rattle.smbus.specs.ContenderLaws.{ContendersHaveOneFrame}
use Rattle.smbus.specs.Winners.{winner}
use Rattle.targets.specs.States.{BusState}
use Rattle.smbus.specs.Shown.{Shown}
use Rattle.smbus.specs.Slots.{plan_of}
use Rattle.smbus.specs.OneFrame.{IsOnlyFrame, CanBeSent, SlotsAreOneFrame}
use Rattle.seq_program.specs.declared.instr.Instr.{Instr}
use Rattle.simulator.specs.Machines.{Machine}
use Rattle.simulator.specs.Entries.{idle_samples}
use Rattle.simulator.specs.Standing.{CanStand}
use Rattle.simulator.specs.Steps.{alert_level, idle_ticks, samples_over, step_entry}
use Rattle.simulator.specs.Traces.{HasItsFrame}

no_events : (alert : Bool) (n : ℕ) → events_of (idle_samples alert n) ≡ []
unfolding idle_samples
no_events alert zero = refl
no_events alert (suc zero) = refl
no_events alert (suc (suc n)) = no_events alert (suc n)

one_frame : (alert : Bool) (m : Asked) (a : Answered) → ReadsBack → SlotsAreOneFrame → CanBeSent m a
    → (f : Shown) × IsOnlyFrame (events_of (idle alert ∷ levels alert (plan_of m a))) f
one_frame alert m a reads slots can =
    let one = slots m a can in
    let same : events_of (idle alert ∷ levels alert (plan_of m a)) ≡ event_word (plan_of m a) =
    reads alert alert (plan_of m a) in
    (one.frame, rw same one.is_only)

pub silent_seen : (i : Instr) (a : Answered) (m : Machine) → HasItsFrame (step_entry i None a m)
silent_seen i a m =
    record { frames = no_events (alert_level m.bus) (suc (idle_ticks i)); ticks = refl }

frame_over : (s : BusState) (asked : Asked) (a : Answered) → ReadsBack → SlotsAreOneFrame
    → ContendersHaveOneFrame → (w : Option Contender) → CanStand w asked a
    → (f : Shown) × IsOnlyFrame (events_of (samples_over w s asked a)) f
frame_over s asked a reads slots others None can =
    one_frame (alert_level s) asked a reads slots can
frame_over s asked a reads slots others (Some c) can =
    let same : events_of (contender_samples (alert_level s) c) ≡ event_word (contender_plan c) =
    reads (alert_level s) (alert_level s) (contender_plan c) in
    (contender_frame c, rw same (others c can).is_only)

pub message_seen : (i : Instr) (asked : Asked) (a : Answered) (m : Machine) → ReadsBack
    → SlotsAreOneFrame → ContendersHaveOneFrame → CanStand (winner asked a) asked a
    → HasItsFrame (step_entry i (Some asked) a m)
message_seen i asked a m reads slots others can =
    record {
      frames = frame_over m.bus asked a reads slots others (winner asked a) can;
      ticks = refl;
    }
