-- How many samples a plan takes.
use Rattle.std.specs.Prelude.{ℕ, ◌+◌, ◌*◌, ◌≤◌, Bool, List, length, All}
use Rattle.bit_bus.specs.declared.plan.TheConstants.{MOST_SLOTS, LONGEST_HOLD}
use Rattle.bit_bus.specs.declared.plan.Slot.{Slot}
use Rattle.bit_bus.specs.Levels.{levels}

-- one for the START, and for each slot at most three and its hold
abbrev pub LevelsAreFew : Type 0
LevelsAreFew = (alert : Bool) (longest : ℕ) (plan : List (Slot × ℕ))
    → All (λ (s : Slot × ℕ). s.1 ≤ longest) plan
    → length (levels alert plan) ≤ 1 + length plan * (3 + longest)

-- what the longest plan with the longest holds takes
abbrev pub most_driven : ℕ
most_driven = 1 + MOST_SLOTS * (3 + LONGEST_HOLD)
