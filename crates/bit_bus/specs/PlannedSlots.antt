-- What a plan keeps of the slots and the holds that it is made of.
use Rattle.std.specs.Prelude.{◌≡◌, ◌≤◌, ℕ, List, All}
use Rattle.bit_bus.specs.declared.plan.Slot.{Slot}
use Rattle.bit_bus.specs.Planned.{planned, slots_in}

-- all slots, in order
abbrev pub SlotsAreKept : Type 0
SlotsAreKept = (slots : List Slot) (holds : List ℕ) → slots_in (planned slots holds) ≡ slots

-- and no longer holds
abbrev pub HoldsAreKept : Type 0
HoldsAreKept = (longest : ℕ) (slots : List Slot) (holds : List ℕ)
    → All (λ (hold : ℕ). hold ≤ longest) holds
    → All (λ (s : Slot × ℕ). s.1 ≤ longest) (planned slots holds)
