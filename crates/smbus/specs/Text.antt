-- A frame as text, such as `S 80A 00A 01A P`.
use Rattle.std.specs.Prelude.{ℕ, Bool, if◌then◌else◌, List, [], ◌∷◌, ◌++◌, map, codes}
use Rattle.std.specs.List.{flat_map, join_with_byte}
use Rattle.texts.specs.Hex.{pair_text}
use Rattle.smbus.specs.Shown.{Shown}
use Rattle.texts.specs.Ascii as ascii

-- a byte as two upper case hexadecimal digits, and A where it was acknowledged, else N
abbrev pub byte_word : ℕ × Bool → List ℕ
byte_word b = pair_text b.0 ++ (if b.1 then codes "A" else codes "N")

abbrev pub bytes_words : List (ℕ × Bool) → List (List ℕ)
bytes_words bytes = map byte_word bytes

-- Sr stands for a repeated START
abbrev pub repeated_words : List (ℕ × Bool) → List (List ℕ)
repeated_words bytes = codes "Sr" ∷ bytes_words bytes

abbrev pub segments_words : List (List (ℕ × Bool)) → List (List ℕ)
segments_words [] = []
segments_words (s ∷ later) = bytes_words s ++ flat_map repeated_words later

abbrev pub bit_digit : Bool → ℕ
bit_digit b = if b then ascii.digit_one else ascii.digit_zero

-- a slash and the bits that were left over, if there are any
abbrev pub tail_words : List Bool → List (List ℕ)
tail_words [] = []
tail_words (b ∷ bits) = (47 ∷ map bit_digit (b ∷ bits)) ∷ []

-- the words of a frame after its S
abbrev pub frame_words : Shown → List (List ℕ)
frame_words f = segments_words f.segments ++ tail_words f.tail ++ codes "P" ∷ []

-- one space between the words
unfoldable pub text_of : Shown → List ℕ
text_of f = join_with_byte ascii.space (codes "S" ∷ frame_words f)

-- words with a space before each
abbrev pub spaced : List (List ℕ) → List ℕ
spaced words = flat_map (λ (w : List ℕ). ascii.space ∷ w) words
