-- The slots of a frame with their holds.
use Rattle.std.specs.Prelude.{ℕ, nat_le, Bool, true, false, not, ◌≡◌, ◌≢◌, ◌≤◌, List, [], ◌∷◌}
use Rattle.std.specs.Prelude.{length, map, All}
use Rattle.std.specs.List.{list_all}
use Rattle.bit_bus.specs.declared.plan.TheConstants.{MOST_SLOTS, LONGEST_HOLD}
use Rattle.bit_bus.specs.declared.plan.Slot.{Slot}
use Rattle.bit_bus.specs.declared.plan.Slot.TheVariants.{Bit, Again, End}

-- each slot with its hold: a missing hold is 0, and holds past the last slot don't count
abbrev pub planned : List Slot → List ℕ → List (Slot × ℕ)
planned [] holds = []
planned (s ∷ slots) [] = (s, 0) ∷ planned slots []
planned (s ∷ slots) (hold ∷ holds) = (s, hold) ∷ planned slots holds

abbrev pub ends_frame : Slot → Bool
ends_frame (Bit sda) = false
ends_frame Again = false
ends_frame End = true

-- what the code tries: no slot is the STOP, and no hold too long
abbrev pub are_inside : List Slot → Bool
are_inside slots = list_all (λ (s : Slot). not (ends_frame s)) slots

abbrev pub are_short : List ℕ → Bool
are_short holds = list_all (λ (hold : ℕ). nat_le hold LONGEST_HOLD) holds

abbrev pub slots_in : List (Slot × ℕ) → List Slot
slots_in plan = map (λ (s : Slot × ℕ). s.0) plan

-- the STOP stands last, and nowhere else
abbrev pub EndsOnce : List Slot → Type 0
EndsOnce [] = ⊥
EndsOnce (s ∷ []) = s ≡ End
EndsOnce (s ∷ t ∷ later) = (s ≢ End) × EndsOnce (t ∷ later)

-- what can be driven
pub record IsPlan (plan : List (Slot × ℕ)) : Type 0 where
  pub few : length plan ≤ MOST_SLOTS
  pub ends : EndsOnce (slots_in plan)
  pub holds : All (λ (s : Slot × ℕ). s.1 ≤ LONGEST_HOLD) plan
