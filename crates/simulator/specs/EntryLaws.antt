-- What is read back from the samples of entries.
use Rattle.std.specs.Prelude.{ℕ, ◌+◌, ◌*◌, ◌≡◌, ◌<◌, ◌≤◌, ◌⊎◌, ◌↔◌, Bool, Some, None, is_some}
use Rattle.std.specs.Prelude.{IsTrue, List, [], length, All}
use Rattle.std.specs.List.{flat_map}
use Rattle.wires.specs.declared.lines.Sample.{Sample}
use Rattle.wires.specs.Events.{events_of}
use Rattle.bit_bus.specs.Levels.{first_cut, HasTimeout}
use Rattle.smbus.specs.Asked.{Asked}
use Rattle.smbus.specs.Answered.{Answered}
use Rattle.smbus.specs.Contenders.{Contender, contender_samples, contender_frame}
use Rattle.smbus.specs.Contenders.{contender_slot_count}
use Rattle.smbus.specs.ContenderLaws.{CanStart, IsToOneAddress}
use Rattle.smbus.specs.Shown.{Shown}
use Rattle.smbus.specs.Frames.{AreFrames}
use Rattle.smbus.specs.Protocol.{marks_of, whole}
use Rattle.smbus.specs.Slots.{plan_of}
use Rattle.smbus.specs.SlotCounts.{most_slots}
use Rattle.smbus.specs.Whole.{IsWhole, IsBrokenOff}
use Rattle.smbus.specs.OneFrame.{IsOnlyFrame}
use Rattle.smbus.specs.MessageFrame.{AreAsked, ShowsMessage}
use Rattle.smbus.specs.Slots.{samples_of}
use Rattle.simulator.specs.Entries.{idle_samples, IsEntry, joined, all_frames, AreRead}

-- the samples of a message and an answer have one frame, the one that shows the message
pub record ReadsOne (m : Asked) (a : Answered) (alert : Bool) : Type 0 where
  pub shows : ShowsMessage m a
  pub is_only : IsOnlyFrame (events_of (samples_of alert m a)) shows.one.frame
  -- the clock is seen low for too long exactly where a slot is cut
  pub timeout : HasTimeout (samples_of alert m a) ↔ IsTrue (is_some (first_cut (plan_of m a)))
  pub shape : IsWhole m a.value a.bytes shows.one.frame
      ⊎ IsBrokenOff (samples_of alert m a) m a.value a.bytes shows.one.frame
  pub done : a.refuse ≡ None → first_cut (plan_of m a) ≡ None
      → IsWhole m a.value a.bytes shows.one.frame
  -- cut in its STOP, it is both
  pub cut_in_end : a.refuse ≡ None
      → first_cut (plan_of m a) ≡ Some (length (marks_of (whole m a.value a.bytes)))
      → IsWhole m a.value a.bytes shows.one.frame
      × IsBrokenOff (samples_of alert m a) m a.value a.bytes shows.one.frame
  pub few : (longest : ℕ) → All (λ hold. hold ≤ longest) a.holds
      → length (samples_of alert m a)
      ≤ 2 + most_slots m.form (length m.out) (length a.bytes) * (3 + longest)
  pub some : 1 ≤ length (samples_of alert m a)
  pub entry : IsEntry (samples_of alert m a)

abbrev pub EntriesReadBack : Type 0
EntriesReadBack = (m : Asked) (a : Answered) (alert : Bool) → AreAsked m a → ReadsOne m a alert

-- the samples of another controller that may start have its one frame, which looks like a whole
-- frame of a message to its own address alone
pub record ReadsForeign (c : Contender) (alert : Bool) : Type 0 where
  pub is_only : IsOnlyFrame (events_of (contender_samples alert c)) (contender_frame c)
  pub to : IsToOneAddress c
  pub few : (longest : ℕ) → All (λ hold. hold ≤ longest) c.holds
      → length (contender_samples alert c)
      ≤ 2 + contender_slot_count (length c.bytes) * (3 + longest)
  pub entry : IsEntry (contender_samples alert c)

abbrev pub ForeignReadsBack : Type 0
ForeignReadsBack = (c : Contender) (alert : Bool) → CanStart c → ReadsForeign c alert

-- idle samples have no frame, and leave the bus free
pub record HasNoFrame (alert : Bool) (ticks : ℕ) : Type 0 where
  pub none : AreFrames (events_of (idle_samples alert ticks)) []
  pub only : (frames : List Shown) → AreFrames (events_of (idle_samples alert ticks)) frames
      → frames ≡ []
  pub count : length (idle_samples alert ticks) ≡ ticks
  pub entry : 0 < ticks → IsEntry (idle_samples alert ticks)

abbrev pub IdleReadsBack : Type 0
IdleReadsBack = (alert : Bool) (ticks : ℕ) → HasNoFrame alert ticks

-- joined entries have the events of each, and so its frames in order, and no others
pub record ReadsJoined (entries : List (List Sample)) : Type 0 where
  pub events : events_of (joined entries) ≡ flat_map events_of entries
  pub frames : (frames : List (List Shown)) → AreRead entries frames
      → AreFrames (events_of (joined entries)) (all_frames frames)
  pub only : (frames : List (List Shown)) → AreRead entries frames → (others : List Shown)
      → AreFrames (events_of (joined entries)) others → others ≡ all_frames frames

abbrev pub JoinedReadBack : Type 0
JoinedReadBack = (entries : List (List Sample)) → All IsEntry entries → ReadsJoined entries
