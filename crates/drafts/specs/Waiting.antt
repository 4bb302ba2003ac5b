-- Which rails of a board wait for which.
use Rattle.std.specs.Prelude.{ℕ, List, Bool, false, ◌==◌, ◌||◌, Option, Some, None, slice_get}
use Rattle.std.specs.List.{list_any}
use Rattle.board.specs.Boards.{Rail, Board}
use Rattle.plans.specs.declared.wish.Wish.{Wish}
use Rattle.plans.specs.Wishes.{puts_before}

abbrev pub is_need : ℕ → Option Rail → Bool
is_need other None = false
is_need other (Some rail) = list_any (λ need. need == other) rail.needs

-- the first rail needs the second
abbrev pub needs : Board → ℕ → ℕ → Bool
needs b rail other = is_need other (slice_get b.rails rail)

-- the first rail waits for the second: it needs it, or the plan puts the second before it
abbrev pub waits_for : Board → List Wish → ℕ → ℕ → Bool
waits_for b wishes rail other = needs b rail other || puts_before wishes other rail
