-- What is read back from the slots of another controller.
use Rattle.std.specs.Prelude.{ℕ, List, ◌≡◌, ◌<◌, ◌≤◌, None, length, All}
use Rattle.bit_bus.specs.declared.driving.TheConstants.{LONGEST_LOW}
use Rattle.bit_bus.specs.Planned.{IsPlan}
use Rattle.bit_bus.specs.Levels.{first_cut}
use Rattle.bit_bus.specs.Word.{event_word}
use Rattle.smbus.specs.Asked.{Asked}
use Rattle.smbus.specs.Whole.{IsWhole}
use Rattle.smbus.specs.OneFrame.{IsOnlyFrame}
use Rattle.smbus.specs.Contenders.{Contender, contender_plan, contender_slot_count}
use Rattle.smbus.specs.Contenders.{contender_frame}

-- an address of seven bits, at most 255 data bytes, and holds that cut no slot (SMBus 3.2,
-- t_TIMEOUT)
pub record CanStart (c : Contender) : Type 0 where
  pub address : c.address ≤ 127
  pub few : length c.bytes ≤ 255
  pub bytes : All (λ byte. byte < 256) c.bytes
  pub holds : All (λ hold. hold < LONGEST_LOW) c.holds

-- a whole frame of a message looks like its frame only where both are to one address
abbrev pub IsToOneAddress : Contender → Type 0
IsToOneAddress c = (m : Asked) (value : ℕ) (block : List ℕ) → m.address ≤ 127
    → IsWhole m value block (contender_frame c) → m.address ≡ c.address

-- its slots can be driven, none is cut, and their events are those of its frame and of no other
-- frames
pub record IsDrivenAsFrame (c : Contender) : Type 0 where
  pub plan : IsPlan (contender_plan c)
  pub uncut : first_cut (contender_plan c) ≡ None
  pub slots : length (contender_plan c) ≡ contender_slot_count (length c.bytes)
  pub is_only : IsOnlyFrame (event_word (contender_plan c)) (contender_frame c)
  pub to : IsToOneAddress c

abbrev pub ContendersHaveOneFrame : Type 0
ContendersHaveOneFrame = (c : Contender) → CanStart c → IsDrivenAsFrame c

-- there is such a controller
pub record SomeCanStart : Type 0 where
  pub contender : Contender
  pub can_start : CanStart contender
