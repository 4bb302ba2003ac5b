-- The reply to a message: its frame as it is seen on the wire, the number of samples, and how it
-- ended.
use Rattle.std.specs.Prelude.{ℕ, ◌≡◌, true, List, [], ◌∷◌, ◌++◌, length, codes}
use Rattle.std.specs.Fmt.{decimal}
use Rattle.wires.specs.Events.{events_of}
use Rattle.bit_bus.specs.Levels.{idle, levels, first_cut}
use Rattle.smbus.specs.Asked.{Asked}
use Rattle.smbus.specs.Answered.{Answered}
use Rattle.smbus.specs.Shown.{Shown}
use Rattle.smbus.specs.Frames.{AreFrames}
use Rattle.smbus.specs.Slots.{plan_of, IsGoodData, IsGoodBlock}
use Rattle.smbus.specs.Text.{text_of}
use Rattle.smbus.specs.declared.fault.SmbusFault.TheVariants.{BadBlock, BadData}
use Rattle.session.specs.declared.fault.InputFault.TheVariants.{Frame}
use Rattle.session.specs.declared.reply.Status.TheVariants.{Accepted}
use Rattle.session.specs.Endings.{outcome_text}
use Rattle.session.specs.Replies.{Reply, refusal}

abbrev pub frame_lines : List ℕ → ℕ → List ℕ → List ℕ
frame_lines frame count outcome =
    frame ++ (codes "\nsamples " ++ (decimal count ++ (codes "\n" ++ (outcome ++ codes "\n"))))

-- the frame that an observer of the lines reads, behind an idle sample, where the slots of the
-- message and the answer are driven
pub record IsFrameText (message : Asked) (answer : Answered) (text : List ℕ) : Type 0 where
  pub frame : Shown
  pub seen : AreFrames (events_of (idle true ∷ levels true (plan_of message answer))) (frame ∷ [])
  pub prints : text ≡ frame_lines (text_of frame) (length (levels true (plan_of message answer)))
      (outcome_text message.form answer (first_cut (plan_of message answer)))

-- the text, or the fault of a message and an answer that have no slots
pub record IsFrameReply (message : Asked) (answer : Answered) (reply : Reply) : Type 0 where
  pub shown : IsGoodData message answer → IsGoodBlock message answer
      → (reply.status ≡ Accepted) × IsFrameText message answer reply.text
  pub bad_data : (IsGoodData message answer → ⊥) → reply ≡ refusal (Frame BadData)
  pub bad_block : IsGoodData message answer → (IsGoodBlock message answer → ⊥)
      → reply ≡ refusal (Frame BadBlock)
