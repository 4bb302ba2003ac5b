-- Names of targets, rails and labels.
use Rattle.std.specs.Prelude.{◌≤◌, ◌<◌, ℕ, List, length, slice_index, Bool, ◌&&◌, ◌||◌, nat_le}
use Rattle.std.specs.Prelude.{nat_lt, ◌==◌, IsTrue}
use Rattle.std.specs.List.{list_all, AllPass}
use Rattle.texts.specs.Ascii as ascii

-- a to z
abbrev pub is_letter : ℕ → Bool
is_letter b = nat_le ascii.lower_a b && nat_le b ascii.lower_z

-- a to z, 0 to 9 or `_`
abbrev pub is_name_byte : ℕ → Bool
is_name_byte b =
    (is_letter b || (nat_le ascii.digit_zero b && nat_le b ascii.digit_nine))
    || (b == ascii.low_line)

-- 1 to 32 of these, the first a letter
pub record IsName (text : List ℕ) : Type 0 where
  pub nonempty : 0 < length text
  pub short : length text ≤ 32
  pub first : IsTrue (is_letter (slice_index text 0))
  pub bytes : AllPass is_name_byte text

-- the same as a test
abbrev pub is_name : List ℕ → Bool
is_name text =
    (nat_lt 0 (length text) && nat_le (length text) 32)
    && (is_letter (slice_index text 0) && list_all is_name_byte text)
