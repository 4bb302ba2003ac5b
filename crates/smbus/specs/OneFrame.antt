-- What is read back from the slots of a message and an answer.
use Rattle.std.specs.Prelude.{ℕ, ◌≡◌, ◌≤◌, Bool, Some, None, List, [], ◌∷◌, length, All}
use Rattle.wires.specs.declared.event.Event.{Event}
use Rattle.bit_bus.specs.declared.plan.TheConstants.{LONGEST_HOLD}
use Rattle.bit_bus.specs.Planned.{IsPlan}
use Rattle.bit_bus.specs.Levels.{first_cut}
use Rattle.bit_bus.specs.Word.{event_word}
use Rattle.smbus.specs.Asked.{Asked}
use Rattle.smbus.specs.Answered.{Answered}
use Rattle.smbus.specs.Shown.{Shown}
use Rattle.smbus.specs.Frames.{AreFrames}
use Rattle.smbus.specs.Protocol.{whole, marks_of}
use Rattle.smbus.specs.Slots.{plan_of, samples_of, IsGoodData, IsGoodBlock}
use Rattle.smbus.specs.Whole.{IsWhole, IsRefused, IsBrokenOff}

-- a message and an answer that `frame_slots` takes, with holds that a plan may have
pub record CanBeSent (m : Asked) (a : Answered) : Type 0 where
  pub has_good_data : IsGoodData m a
  pub has_good_block : IsGoodBlock m a
  pub holds : All (λ hold. hold ≤ LONGEST_HOLD) a.holds

-- these are the events of this frame, and of no other frames
pub record IsOnlyFrame (events : List Event) (f : Shown) : Type 0 where
  pub is : AreFrames events (f ∷ [])
  pub only : (others : List Shown) → AreFrames events others → others ≡ f ∷ []

-- the slots can be driven, and their event word is that of one frame: whole where nothing was
-- refused or cut, else broken off; and where End is cut both
pub record HasOneFrame (m : Asked) (a : Answered) : Type 0 where
  pub plan : IsPlan (plan_of m a)
  pub frame : Shown
  pub is_only : IsOnlyFrame (event_word (plan_of m a)) frame
  pub done : a.refuse ≡ None → first_cut (plan_of m a) ≡ None → IsWhole m a.value a.bytes frame
  pub cut_in_end : a.refuse ≡ None
      → first_cut (plan_of m a) ≡ Some (length (marks_of (whole m a.value a.bytes)))
      → IsWhole m a.value a.bytes frame
  pub refused : (n : ℕ) → a.refuse ≡ Some n → (alert : Bool)
      → IsBrokenOff (samples_of alert m a) m a.value a.bytes frame
  -- and where nothing is cut it ends in the refused byte
  pub only_refused : (n : ℕ) → a.refuse ≡ Some n → first_cut (plan_of m a) ≡ None
      → (r : IsRefused m a.value a.bytes frame) × (r.number ≡ n)
  pub cut : (slot : ℕ) → first_cut (plan_of m a) ≡ Some slot → (alert : Bool)
      → IsBrokenOff (samples_of alert m a) m a.value a.bytes frame

abbrev pub SlotsAreOneFrame : Type 0
SlotsAreOneFrame = (m : Asked) (a : Answered) → CanBeSent m a → HasOneFrame m a

-- events are those of one list of frames at most
abbrev pub FramesAreUnique : Type 0
FramesAreUnique = (events : List Event) (frames others : List Shown) → AreFrames events frames
    → AreFrames events others → others ≡ frames
