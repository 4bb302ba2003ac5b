-- Words of the form KEY=VALUE, in a fixed order.
use Rattle.std.specs.Prelude.{ℕ, List, [], ◌∷◌, ◌==◌, length, drop, nat_lt, Option, Some, None}
use Rattle.std.specs.Prelude.{option_map, is_some, if◌then◌else◌}
use Rattle.std.specs.List.{starts_with, position_or_len, before_first, after_first}
use Rattle.std.specs.Prelude.{nat_eq}
use Rattle.texts.specs.Decimal.{decimal_within}
use Rattle.texts.specs.Hex.{pairs_of, hex_number}

-- what stands after the key, if the word begins with it
unfoldable pub after_key : List ℕ → List ℕ → Option (List ℕ)
after_key key word = if starts_with nat_eq word key then Some (drop (length key) word) else None

-- the value of the first word, if it has this key
unfoldable pub value_of : List ℕ → List (List ℕ) → Option (List ℕ)
value_of key [] = None
value_of key (word ∷ later) = after_key key word

-- the words after it, or all of them where the first has another key
unfoldable pub rest_of : List ℕ → List (List ℕ) → List (List ℕ)
rest_of key [] = []
rest_of key (word ∷ later) = if is_some (after_key key word) then later else word ∷ later

-- ---- values that may be missing

abbrev pub refuse_of : Option (List ℕ) → Option (Option ℕ)
refuse_of None = Some None
refuse_of (Some text) = option_map Some (decimal_within 65535 text)

abbrev pub number_of : Option (List ℕ) → Option ℕ
number_of None = Some 0
number_of (Some text) = hex_number text

-- one pair at least
abbrev pub bytes_of : Option (List ℕ) → Option (List ℕ)
bytes_of None = Some []
bytes_of (Some text) = if nat_lt 0 (length text) then pairs_of text else None

-- what stands before the first such byte and after it
abbrev pub cut_at : ℕ → List ℕ → Option (List ℕ × List ℕ)
cut_at c text =
    if nat_lt (position_or_len (λ b. b == c) text) (length text)
    then Some (before_first (λ b. b == c) text, after_first (λ b. b == c) text) else None
