-- The slots of a message and an answer: the marks of the whole frame up to the refused byte, and
-- End; and their samples.
use Rattle.std.specs.Prelude.{ℕ, Bool, Option, List, [], ◌∷◌, ◌++◌, length}
use Rattle.wires.specs.declared.lines.Sample.{Sample}
use Rattle.bit_bus.specs.declared.plan.Slot.{Slot}
use Rattle.bit_bus.specs.declared.plan.Slot.TheVariants.{End}
use Rattle.bit_bus.specs.Planned.{planned}
use Rattle.bit_bus.specs.Levels.{idle, levels}
use Rattle.smbus.specs.Asked.{Asked}
use Rattle.smbus.specs.Answered.{Answered}
use Rattle.smbus.specs.Protocol.{whole, up_to_refused, marks_of, sent_count, HasLength}
use Rattle.smbus.specs.Protocol.{AreGoodCounts, IsNumbered}

abbrev pub marks_sent : Asked → Option ℕ → ℕ → List ℕ → List Slot
marks_sent m refuse value block = marks_of (up_to_refused refuse (whole m value block))

abbrev pub slots_of : Asked → Answered → List Slot
slots_of m a = marks_sent m a.refuse a.value a.bytes ++ End ∷ []

-- each slot with its hold
abbrev pub plan_of : Asked → Answered → List (Slot × ℕ)
plan_of m a = planned (slots_of m a) a.holds

-- what is driven: one idle sample, and then the levels of the slots
abbrev pub samples_of : Bool → Asked → Answered → List Sample
samples_of alert m a = idle alert ∷ levels alert (plan_of m a)

-- the data have the form's length, and the refusal names a byte
pub record IsGoodData (m : Asked) (a : Answered) : Type 0 where
  pub has_length : HasLength m.form (length m.out)
  pub is_numbered : IsNumbered a.refuse (sent_count (whole m a.value a.bytes))

-- the blocks can be counted
abbrev pub IsGoodBlock : Asked → Answered → Type 0
IsGoodBlock m a = AreGoodCounts m.form (length m.out) (length a.bytes)
