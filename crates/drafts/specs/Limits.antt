-- Wished voltages against the limits of rails.
use Rattle.std.specs.Prelude.{ℕ, List, Bool, false, not, Option, Some, None, slice_get, find}
use Rattle.pmbus_table.specs.Voltage.{within}
use Rattle.board.specs.Boards.{Target, Rail, Board}
use Rattle.plans.specs.declared.wish.Wish.{Wish}
use Rattle.plans.specs.Wishes.{voltage_of}

abbrev pub is_over : Rail → ℕ → Option Target → Bool
is_over rail mantissa None = false
is_over rail mantissa (Some target) = not (within mantissa target.exponent rail.limit_uv)

abbrev pub exceeds : Board → Option Rail → Option ℕ → Bool
exceeds b (Some rail) (Some mantissa) = is_over rail mantissa (slice_get b.targets rail.target)
exceeds b _ _ = false

-- the voltage that is wished for a rail is over its limit
abbrev pub exceeds_limit : Board → List Wish → ℕ → Bool
exceeds_limit b wishes d = exceeds b (slice_get b.rails d) (voltage_of wishes d)

-- the first rail of an order for which it is
abbrev pub first_over : Board → List Wish → List ℕ → Option ℕ
first_over b wishes order = find (exceeds_limit b wishes) order
