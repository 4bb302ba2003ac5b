-- A frame that was seen is that of its message.
use Rattle.std.proofs.Common.{◌≡◌, ℕ, [], ◌∷◌, List, Option, true, length}
use Rattle.std.specs.List.{AllZip, each_same}
use Rattle.bit_bus.specs.declared.plan.Slot.{Slot}
use Rattle.bit_bus.specs.Planned.{planned}
use Rattle.bit_bus.specs.Levels.{idle, levels, first_cut}
use Rattle.bit_bus.specs.Word.{event_word}
use Rattle.smbus.specs.Asked.{Asked}
use Rattle.smbus.specs.Answered.{Answered}
use Rattle.smbus.specs.Frames.{AreFrames}
use Rattle.smbus.specs.OneFrame.{CanBeSent, IsOnlyFrame, SlotsAreOneFrame}
use Rattle.smbus.specs.Shown.{Shown}
use Rattle.smbus.specs.Slots.{plan_of, slots_of}
use Rattle.smbus.specs.Text.{text_of}
use Rattle.wires.specs.Events.{events_of}
use Rattle.wires.specs.declared.lines.Sample.{Sample}
use Rattle.session.specs.FrameReplies.{IsFrameText, frame_lines}
use Rattle.session.specs.Endings.{outcome_text}

pub frame_shown : (message : Asked) (answer : Answered) (samples : List Sample) (cut : Option ℕ)
    (frame outcome text : List ℕ) (count : ℕ) → text ≡ frame_lines frame count outcome
    → ((f : Shown) × AreFrames (events_of (idle true ∷ samples)) (f ∷ []) × (frame ≡ text_of f))
    → count ≡ length samples → outcome ≡ outcome_text message.form answer cut
    → samples ≡ levels true (plan_of message answer)
    → cut ≡ first_cut (plan_of message answer) → IsFrameText message answer text
frame_shown message answer samples cut frame outcome text n prints seen counted ends driven is =
    let at = rw driven at seen in
    record {
      frame = at.0;
      seen = at.1;
      prints = rw (prints, at.2, counted, driven, ends, is);
    }

pub only_frame : SlotsAreOneFrame → (message : Asked) (answer : Answered) (samples : List Sample)
    → CanBeSent message answer
    → events_of (idle true ∷ samples) ≡ event_word (plan_of message answer)
    → (f : Shown) × IsOnlyFrame (events_of (idle true ∷ samples)) f
only_frame one message answer samples sent word =
    let sole = one message answer sent in
    (sole.frame, rw word sole.is_only)

-- the slots are planned with a copy of the holds
pub planned_so : (message : Asked) (answer : Answered) (slots : List Slot) (held holds : List ℕ)
    → slots ≡ slots_of message answer → AllZip (λ x y. y ≡ x) held holds → held ≡ answer.holds
    → planned slots holds ≡ plan_of message answer
planned_so message answer slots held holds are copied is =
    rw (are, each_same held holds copied, is)
