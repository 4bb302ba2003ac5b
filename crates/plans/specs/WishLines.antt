-- What the words of a line wish, or the first of them that doesn't stand in its place.
use Rattle.std.specs.Prelude.{◌≢◌, ℕ, ◌+◌, ◌≤◌, ◌<◌, List, [], ◌∷◌, slice_get, ◌==◌, Option, Some}
use Rattle.std.specs.Prelude.{None, option_and_then, Result, Ok, Err, IsTrue, IfSome, codes}
use Rattle.std.specs.Prelude.{if◌then◌else◌}
use Rattle.std.specs.Str.{bytes_eq}
use Rattle.texts.specs.Hex.{pair_of}
use Rattle.texts.specs.Reading.{◌>>=◌, some_or}
use Rattle.pmbus_table.specs.Protect.{is_protection}
use Rattle.board.specs.Boards.{Board, place_of_name}
use Rattle.plans.specs.declared.fault.LineFault.{LineFault}
use Rattle.plans.specs.declared.fault.LineFault.TheVariants as fault
use Rattle.plans.specs.declared.wish.Poll.{Poll}
use Rattle.plans.specs.declared.wish.Wish.{Wish}
use Rattle.plans.specs.declared.wish.Wish.TheVariants as wish
use Rattle.plans.specs.Numbers.{ticks_of, retry_count, poll_count}
use Rattle.plans.specs.Volts.{mantissa_of}

-- a rail and a target of the board by their names, or the place of a word that names none
unfoldable pub rail_at : Board → ℕ → List ℕ → Result ℕ LineFault
rail_at board at name = some_or (fault.NoRail at) (place_of_name name board.rail_names)

unfoldable pub target_at : Board → ℕ → List ℕ → Result ℕ LineFault
target_at board at name = some_or (fault.NoTarget at) (place_of_name name board.target_names)

-- the mantissa of a rail's voltage, at the exponent of the rail's target
unfoldable pub rail_mantissa : Board → ℕ → List ℕ → Option ℕ
rail_mantissa board index value =
    option_and_then (λ rail. option_and_then (λ target. mantissa_of target.exponent value)
    (slice_get board.targets rail.target)) (slice_get board.rails index)

-- how many times is tried again, and asked
unfoldable pub retries_at : ℕ → List ℕ → Result ℕ LineFault
retries_at at count = some_or (fault.NoRetries at) (retry_count count)

unfoldable pub count_at : ℕ → List ℕ → Result ℕ LineFault
count_at at count = some_or (fault.NoCount at) (poll_count count)

-- `TICKS N`, the first of these at this place
unfoldable pub poll_at : ℕ → List ℕ → List ℕ → Result Poll LineFault
poll_at at interval count = do
  ticks ← some_or (fault.NoTicks at) (ticks_of interval)
  times ← count_at (at + 1) count
  Ok (record { ticks = ticks; times = times })

-- a value of WRITE_PROTECT in two digits
abbrev pub protection : Option ℕ → Option ℕ
protection None = None
protection (Some value) = if is_protection value then Some value else None

-- `RAIL V`
unfoldable pub voltage_wish : Board → List (List ℕ) → Result Wish LineFault
voltage_wish board (name ∷ value ∷ []) = do
  rail ← rail_at board 1 name
  mantissa ← some_or (fault.NoVoltage 2) (rail_mantissa board rail value)
  Ok (wish.Voltage rail mantissa)
voltage_wish board _ = Err fault.WordCount

-- `RAIL N`
unfoldable pub rail_retries : Board → List ℕ → List ℕ → Result Wish LineFault
rail_retries board name count = do
  rail ← rail_at board 1 name
  times ← retries_at 2 count
  Ok (wish.Retries (Some rail) times)

-- `N` or `RAIL N`
unfoldable pub retries_wish : Board → List (List ℕ) → Result Wish LineFault
retries_wish board (count ∷ []) = do
  times ← retries_at 1 count
  Ok (wish.Retries None times)
retries_wish board (name ∷ count ∷ []) = rail_retries board name count
retries_wish board _ = Err fault.WordCount

-- `RAIL TICKS N`
unfoldable pub rail_polling : Board → List ℕ → List ℕ → List ℕ → Result Wish LineFault
rail_polling board name interval count = do
  rail ← rail_at board 1 name
  poll ← poll_at 2 interval count
  Ok (wish.Polling (Some rail) poll)

-- `TICKS N` or `RAIL TICKS N`
unfoldable pub polling_wish : Board → List (List ℕ) → Result Wish LineFault
polling_wish board (interval ∷ count ∷ []) = do
  poll ← poll_at 1 interval count
  Ok (wish.Polling None poll)
polling_wish board (name ∷ interval ∷ count ∷ []) = rail_polling board name interval count
polling_wish board _ = Err fault.WordCount

-- `TARGET HH`
unfoldable pub protect_wish : Board → List (List ℕ) → Result Wish LineFault
protect_wish board (name ∷ digits ∷ []) = do
  target ← target_at board 1 name
  value ← some_or (fault.NoProtection 2) (protection (pair_of digits))
  Ok (wish.Protect target value)
protect_wish board _ = Err fault.WordCount

-- `TARGET`
unfoldable pub clear_wish : Board → List (List ℕ) → Result Wish LineFault
clear_wish board (name ∷ []) = do
  target ← target_at board 1 name
  Ok (wish.Clear target)
clear_wish board _ = Err fault.WordCount

-- `RAIL RAIL`, two different ones
unfoldable pub order_wish : Board → List (List ℕ) → Result Wish LineFault
order_wish board (before ∷ after ∷ []) = do
  first ← rail_at board 1 before
  second ← rail_at board 2 after
  if first == second then Err fault.SameRail else Ok (wish.Order first second)
order_wish board _ = Err fault.WordCount

-- the wish of a line's words, by the first of them
unfoldable pub wish_of : Board → List (List ℕ) → Result Wish LineFault
wish_of board [] = Err fault.NoWish
wish_of board (word ∷ operands) =
    if bytes_eq word (codes "voltage") then voltage_wish board operands
    else if bytes_eq word (codes "retries") then retries_wish board operands
    else if bytes_eq word (codes "poll") then polling_wish board operands
    else if bytes_eq word (codes "protect") then protect_wish board operands
    else if bytes_eq word (codes "clear") then clear_wish board operands
    else if bytes_eq word (codes "order") then order_wish board operands
    else Err fault.NoWish

-- how it is asked: 1 to 10,000,000 ticks and 1 to 1000 times
pub record IsPoll (poll : Poll) : Type 0 where
  pub some_ticks : 1 ≤ poll.ticks
  pub few_ticks : poll.ticks ≤ 10000000
  pub some_times : 1 ≤ poll.times
  pub few_times : poll.times ≤ 1000

-- a wish for a board with so many rails and targets
abbrev pub IsWishOn : ℕ → ℕ → Wish → Type 0
IsWishOn rails targets (wish.Voltage rail mantissa) = (rail < rails) × (mantissa ≤ 65535)
IsWishOn rails targets (wish.Retries rail times) = IfSome rail (λ r. r < rails) × (times ≤ 1000)
IsWishOn rails targets (wish.Polling rail poll) = IfSome rail (λ r. r < rails) × IsPoll poll
IsWishOn rails targets (wish.Protect target value) =
    (target < targets) × IsTrue (is_protection value)
IsWishOn rails targets (wish.Clear target) = target < targets
IsWishOn rails targets (wish.Order first second) =
    (first < rails) × (second < rails) × (first ≢ second)
