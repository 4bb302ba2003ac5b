-- Upper case hexadecimal digits.
use Rattle.std.specs.Prelude.{ℕ, List, [], ◌∷◌, ◌+◌, ◌/◌, ◌%◌, ◌++◌, nat_lt, nat_le, Bool, ◌&&◌}
use Rattle.std.specs.Prelude.{◌||◌, length, Option, Some, None, option_map, option_and_then}
use Rattle.std.specs.Prelude.{if◌then◌else◌}
use Rattle.std.specs.List.{list_all, flat_map}
use Rattle.std.specs.Str.Parse.{digits_value}
use Rattle.texts.specs.Ascii as ascii

-- 0 to 9 or A to F
abbrev pub is_digit : ℕ → Bool
is_digit c = (nat_le ascii.digit_zero c && nat_le c ascii.digit_nine)
    || (nat_le ascii.upper_a c && nat_le c ascii.upper_f)

-- the number that a text of so many digits, least to most, spells
abbrev pub number_of_digits : ℕ → ℕ → List ℕ → Option ℕ
number_of_digits least most text =
    if (nat_le least (length text) && nat_le (length text) most) && list_all is_digit text
    then Some (digits_value 16 text) else None

-- the byte that two digits spell
abbrev pub pair_of : List ℕ → Option ℕ
pair_of text = number_of_digits 2 2 text

-- the number that one to four digits spell
abbrev pub hex_number : List ℕ → Option ℕ
hex_number text = number_of_digits 1 4 text

-- the bytes that pairs of digits spell
unfoldable pub pairs_of : List ℕ → Option (List ℕ)
pairs_of [] = Some []
pairs_of (c ∷ []) = None
pairs_of (high ∷ low ∷ rest) =
    option_and_then (λ b. option_map (λ bs. b ∷ bs) (pairs_of rest)) (pair_of (high ∷ low ∷ []))

-- the digit of a number below 16
abbrev pub digit_of : ℕ → ℕ
digit_of n = if nat_lt n 10 then n + ascii.digit_zero else n + 55

-- the two digits of a byte
abbrev pub pair_text : ℕ → List ℕ
pair_text b = digit_of (b / 16) ∷ digit_of (b % 16) ∷ []

-- the pairs of some bytes
abbrev pub pairs_text : List ℕ → List ℕ
pairs_text bytes = flat_map pair_text bytes

-- the four digits of a word
abbrev pub word_text : ℕ → List ℕ
word_text w = pair_text (w / 256) ++ pair_text (w % 256)
