-- Decimal numbers without sign or leading zeros.
use Rattle.std.specs.Prelude.{ℕ, List, length, slice_index, Bool, ◌&&◌, not, nat_le, nat_lt, ◌==◌}
use Rattle.std.specs.Prelude.{Option, Some, None, if◌then◌else◌}
use Rattle.std.specs.List.{list_all}
use Rattle.std.specs.Char.{is_ascii_digit}
use Rattle.std.specs.Str.Parse.{digits_value}
use Rattle.texts.specs.Ascii as ascii

-- digits, the first not 0 unless it is the only one
abbrev pub is_decimal : List ℕ → Bool
is_decimal text =
    (nat_lt 0 (length text) && list_all is_ascii_digit text)
    && not (nat_lt 1 (length text) && (slice_index text 0 == ascii.digit_zero))

-- the number that a text spells, if it is at most `most`
abbrev pub decimal_within : ℕ → List ℕ → Option ℕ
decimal_within most text =
    if is_decimal text && nat_le (digits_value 10 text) most then Some (digits_value 10 text)
    else None
