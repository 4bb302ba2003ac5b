-- One word of a line as an operand.
use Rattle.std.specs.Prelude.{ℕ, ◌-◌, ◌+◌, List, [], ◌∷◌, length, drop, Bool, true, false, ◌&&◌}
use Rattle.std.specs.Prelude.{◌||◌, nat_le, nat_lt, ◌==◌, nat_eq, Option, Some, None}
use Rattle.std.specs.Prelude.{option_and_then, if◌then◌else◌, codes}
use Rattle.std.specs.List.{list_all, starts_with}
use Rattle.std.specs.Str.{bytes_eq}
use Rattle.std.specs.Str.Parse.{digits_value}
use Rattle.texts.specs.Decimal.{decimal_within}
use Rattle.texts.specs.Hex.{pairs_of}
use Rattle.texts.specs.Names.{is_name}
use Rattle.texts.specs.Ascii as ascii

-- a letter and a digit below a limit
abbrev pub numbered : ℕ → ℕ → List ℕ → Option ℕ
numbered letter limit (first ∷ digit ∷ []) =
    if (first == letter)
    && (nat_le ascii.digit_zero digit && nat_lt digit (limit + ascii.digit_zero))
    then Some (digit - ascii.digit_zero) else None
numbered letter limit _ = None

-- r0 to r7, c0 to c3
abbrev pub register_of : List ℕ → Option ℕ
register_of word = numbered ascii.lower_r 8 word

abbrev pub counter_of : List ℕ → Option ℕ
counter_of word = numbered ascii.lower_c 4 word

-- the name of a label
abbrev pub label_of : List ℕ → Option (List ℕ)
label_of word = if is_name word then Some word else None

-- whether a quick command reads
abbrev pub direction_of : List ℕ → Option Bool
direction_of word =
    if bytes_eq word (codes "r") then Some true else if bytes_eq word (codes "w") then Some false
    else None

-- 0 to 9, A to F or a to f
abbrev pub is_digit : ℕ → Bool
is_digit c =
    ((nat_le ascii.digit_zero c && nat_le c ascii.digit_nine)
    || (nat_le ascii.upper_a c && nat_le c ascii.upper_f))
    || (nat_le ascii.lower_a c && nat_le c ascii.lower_f)

-- one to four hexadecimal digits of either case
abbrev pub hexadecimal_of : List ℕ → Option ℕ
hexadecimal_of digits =
    if (nat_lt 0 (length digits) && nat_le (length digits) 4) && list_all is_digit digits
    then Some (digits_value 16 digits) else None

-- `0x` and these digits, or at most eight decimal ones
abbrev pub number_of : List ℕ → Option ℕ
number_of word =
    if starts_with nat_eq word (codes "0x") then hexadecimal_of (drop 2 word)
    else decimal_within 99999999 word

abbrev pub number_within : ℕ → ℕ → List ℕ → Option ℕ
number_within low high word =
    option_and_then (λ n. if nat_le low n && nat_le n high then Some n else None) (number_of word)

-- as many bytes as pairs of upper case hexadecimal digits spell, one at least
abbrev pub block_of : ℕ → List ℕ → Option (List ℕ)
block_of most word =
    option_and_then (λ bytes. if nat_le 1 (length bytes) && nat_le (length bytes) most
    then Some bytes else None) (pairs_of word)
