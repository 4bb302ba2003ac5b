-- The numbers of a plan's lines.
use Rattle.std.specs.Prelude.{ℕ, ◌-◌, ◌*◌, ◌/◌, ◌%◌, List, length, drop, take, ◌==◌, nat_lt, Option}
use Rattle.std.specs.Prelude.{Some, None, option_map, option_and_then, codes, if◌then◌else◌}
use Rattle.std.specs.Str.{bytes_eq}
use Rattle.texts.specs.Decimal.{decimal_within}

-- what stands before an ending
abbrev pub before_ending : List ℕ → List ℕ → Option (List ℕ)
before_ending ending word =
    if bytes_eq (drop (length word - length ending) word) ending
    then Some (take (length word - length ending) word) else None

-- the ticks of 5 µs that milliseconds are, and microseconds, if these are whole ticks
abbrev pub ticks_of_milliseconds : List ℕ → Option ℕ
ticks_of_milliseconds text = option_map (λ n. n * 200) (decimal_within 50000 text)

abbrev pub whole_ticks : ℕ → Option ℕ
whole_ticks microseconds = if microseconds % 5 == 0 then Some (microseconds / 5) else None

abbrev pub ticks_of_microseconds : List ℕ → Option ℕ
ticks_of_microseconds text = option_and_then whole_ticks (decimal_within 50000000 text)

-- ticks by the unit at the word's end
abbrev pub ticks_by_unit : List ℕ → Option (List ℕ) → Option (List ℕ) → Option ℕ
ticks_by_unit word (Some milliseconds) other = ticks_of_milliseconds milliseconds
ticks_by_unit word None (Some microseconds) = ticks_of_microseconds microseconds
ticks_by_unit word None None = decimal_within 10000000 word

abbrev pub some_positive : Option ℕ → Option ℕ
some_positive None = None
some_positive (Some n) = if nat_lt 0 n then Some n else None

-- 1 to 10,000,000 ticks
abbrev pub ticks_of : List ℕ → Option ℕ
ticks_of word = some_positive (ticks_by_unit word (before_ending (codes "ms") word)
    (before_ending (codes "us") word))

-- how many times is tried again, and asked
abbrev pub retry_count : List ℕ → Option ℕ
retry_count word = decimal_within 1000 word

abbrev pub poll_count : List ℕ → Option ℕ
poll_count word = some_positive (decimal_within 1000 word)
