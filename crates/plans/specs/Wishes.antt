-- What a plan wishes of each rail and of each target.
use Rattle.std.specs.Prelude.{ℕ, List, Bool, false, true, ◌==◌, ◌&&◌, Option, Some, None, is_some}
use Rattle.std.specs.Prelude.{find, option_and_then, unwrap_or}
use Rattle.plans.specs.declared.subject.Subject.{Subject}
use Rattle.plans.specs.declared.subject.Subject.TheVariants as subject
use Rattle.plans.specs.declared.wish.Poll.{Poll}
use Rattle.plans.specs.declared.wish.Wish.{Wish}
use Rattle.plans.specs.declared.wish.Wish.TheVariants as wish

-- whether a wish wishes just this
abbrev pub is_about : Subject → Wish → Bool
is_about (subject.Voltage rail) (wish.Voltage of mantissa) = of == rail
is_about subject.GeneralRetries (wish.Retries None times) = true
is_about (subject.Retries rail) (wish.Retries (Some of) times) = of == rail
is_about subject.GeneralPolling (wish.Polling None poll) = true
is_about (subject.Polling rail) (wish.Polling (Some of) poll) = of == rail
is_about (subject.Protect target) (wish.Protect of value) = of == target
is_about (subject.Clear target) (wish.Clear of) = of == target
is_about (subject.Order first second) (wish.Order one other) = one == first && other == second
is_about _ _ = false

-- what a wish wishes
abbrev pub subject_of : Wish → Subject
subject_of (wish.Voltage rail mantissa) = subject.Voltage rail
subject_of (wish.Retries None times) = subject.GeneralRetries
subject_of (wish.Retries (Some rail) times) = subject.Retries rail
subject_of (wish.Polling None poll) = subject.GeneralPolling
subject_of (wish.Polling (Some rail) poll) = subject.Polling rail
subject_of (wish.Protect target value) = subject.Protect target
subject_of (wish.Clear target) = subject.Clear target
subject_of (wish.Order first second) = subject.Order first second

-- the wish that wishes just this, if there is one
abbrev pub wish_about : List Wish → Subject → Option Wish
wish_about wishes about = find (is_about about) wishes

-- the values that wishes have
abbrev pub mantissa_in : Wish → Option ℕ
mantissa_in (wish.Voltage rail mantissa) = Some mantissa
mantissa_in _ = None

abbrev pub retries_in : Wish → Option ℕ
retries_in (wish.Retries rail times) = Some times
retries_in _ = None

abbrev pub poll_in : Wish → Option Poll
poll_in (wish.Polling rail poll) = Some poll
poll_in _ = None

abbrev pub protection_in : Wish → Option ℕ
protection_in (wish.Protect target value) = Some value
protection_in _ = None

-- the mantissa of a rail's voltage
abbrev pub voltage_of : List Wish → ℕ → Option ℕ
voltage_of wishes rail = option_and_then mantissa_in (wish_about wishes (subject.Voltage rail))

-- how many times a message is tried again, where no rail has retries of its own: 3 times unless
-- that is wished otherwise
abbrev pub general_retries : List Wish → ℕ
general_retries wishes =
    unwrap_or (option_and_then retries_in (wish_about wishes subject.GeneralRetries)) 3

-- how many times a message of a rail is tried again
abbrev pub retries_of : List Wish → ℕ → ℕ
retries_of wishes rail =
    unwrap_or (option_and_then retries_in (wish_about wishes (subject.Retries rail)))
    (general_retries wishes)

-- how it is asked whether the power of a rail is good, where the rail has no wish of its own: each
-- millisecond and 50 times, unless that is wished otherwise
abbrev pub general_polling : List Wish → Poll
general_polling wishes =
    unwrap_or (option_and_then poll_in (wish_about wishes subject.GeneralPolling))
    (record { ticks = 200; times = 50 })

-- how it is asked whether the power of a rail is good
abbrev pub polling_of : List Wish → ℕ → Poll
polling_of wishes rail =
    unwrap_or (option_and_then poll_in (wish_about wishes (subject.Polling rail)))
    (general_polling wishes)

-- the value of WRITE_PROTECT of a target at the end
abbrev pub protect_of : List Wish → ℕ → Option ℕ
protect_of wishes target =
    option_and_then protection_in (wish_about wishes (subject.Protect target))

-- whether a target's faults are cleared
abbrev pub clears : List Wish → ℕ → Bool
clears wishes target = is_some (wish_about wishes (subject.Clear target))

-- whether the first rail is to be turned on before the second
abbrev pub puts_before : List Wish → ℕ → ℕ → Bool
puts_before wishes first second = is_some (wish_about wishes (subject.Order first second))
