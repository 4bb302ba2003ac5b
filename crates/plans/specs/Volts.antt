-- Voltages of a plan's lines.
use Rattle.std.specs.Prelude.{◌≡◌, ℕ, ℤ, ◌+◌, ◌-◌, ◌*◌, ◌/◌, ◌^◌, ◌≤◌}
use Rattle.std.specs.Prelude.{◌<◌, List, length, ◌==◌, ◌&&◌, nat_le, Option, Some, None}
use Rattle.std.specs.Prelude.{option_and_then, option_map, IfSome, codes, if◌then◌else◌}
use Rattle.std.specs.List.{list_all, before_first, after_first}
use Rattle.std.specs.Char.{is_ascii_digit}
use Rattle.std.specs.Str.Parse.{digits_value}
use Rattle.texts.specs.Decimal.{decimal_within}
use Rattle.pmbus_table.specs.Voltage.{mantissas_in_volt}
use Rattle.plans.specs.Numbers.{before_ending}

-- the millionths that one to six digits behind a point are
abbrev pub millionths_of : List ℕ → Option ℕ
millionths_of digits =
    if (nat_le 1 (length digits) && nat_le (length digits) 6) && list_all is_ascii_digit digits
    then Some (digits_value 10 digits * 10 ^ (6 - length digits)) else None

-- the microvolts of a decimal with a point in it, in volts
abbrev pub microvolts_of : List ℕ → Option ℕ
microvolts_of volts =
    option_and_then (λ whole. option_map (λ millionths. whole * 1000000 + millionths)
    (millionths_of (after_first (λ b. b == 46) volts)))
    (decimal_within 9999 (before_first (λ b. b == 46) volts))

-- where so many mantissas are a volt, the voltage of this one is nearest to the microvolts: they
-- are apart by half a step at most, and half way between two the higher one is taken
pub record IsNearest (in_volt microvolts mantissa : ℕ) : Type 0 where
  pub not_above : 2 * (mantissa * 1000000) ≤ 2 * (microvolts * in_volt) + 1000000
  pub not_below : 2 * (microvolts * in_volt) < 2 * (mantissa * 1000000) + 1000000

-- that mantissa, if it has 16 bits
abbrev pub nearest_among : ℕ → ℕ → Option ℕ
nearest_among microvolts in_volt =
    let nearest = (microvolts * in_volt + 500000) / 1000000 in
    if nat_le nearest 65535 then Some nearest else None

abbrev pub nearest_mantissa : ℤ → ℕ → Option ℕ
nearest_mantissa exponent microvolts =
    option_and_then (nearest_among microvolts) (mantissas_in_volt exponent)

-- it is nearest, and each one of 16 bits that is nearest is it
abbrev pub NearestIsFound : Type 0
NearestIsFound = (microvolts in_volt : ℕ)
    → IfSome (nearest_among microvolts in_volt) (λ m. IsNearest in_volt microvolts m)

abbrev pub NearestIsOne : Type 0
NearestIsOne = (microvolts in_volt mantissa : ℕ) → mantissa ≤ 65535
    → IsNearest in_volt microvolts mantissa → nearest_among microvolts in_volt ≡ Some mantissa

-- a word of a voltage as a mantissa: a number of volts with `V` behind it, or the mantissa itself
abbrev pub mantissa_by_unit : ℤ → List ℕ → Option (List ℕ) → Option ℕ
mantissa_by_unit exponent word (Some volts) =
    option_and_then (nearest_mantissa exponent) (microvolts_of volts)
mantissa_by_unit exponent word None = decimal_within 65535 word

abbrev pub mantissa_of : ℤ → List ℕ → Option ℕ
mantissa_of exponent word = mantissa_by_unit exponent word (before_ending (codes "V") word)
