-- The words of a line, one after another, as they are written. No public contract cites this:
-- `Lines` says which lines a table has.
use Rattle.std.specs.Prelude.{ℕ, Bool, if◌then◌else◌, ◌-◌, List, [], ◌∷◌, ◌++◌, map, filter}
use Rattle.std.specs.List.{flat_map, range_with_len}
use Rattle.facts.specs.domain.Sets.{Set}
use Rattle.table_check.specs.text.Lines.{Words}
use Rattle.texts.specs.Ascii as ascii

-- a word behind a space
abbrev pub spaced : List ℕ → List ℕ
spaced word = ascii.space ∷ word

abbrev pub all_spaced : Words → List ℕ
all_spaced words = flat_map spaced words

-- a line with its end
abbrev pub line_text : Words → List ℕ
line_text [] = ascii.line_feed ∷ []
line_text (word ∷ words) = word ++ (all_spaced words ++ ascii.line_feed ∷ [])

abbrev pub text_of : List Words → List ℕ
text_of lines = flat_map line_text lines

-- a word behind a space, or nothing
abbrev pub if_chosen : Bool → List ℕ → List ℕ
if_chosen chosen word = if chosen then spaced word else []

-- the words of the values of a set from one value on
unfoldable pub words_from : Set → (ℕ → List ℕ) → ℕ → ℕ → List ℕ
words_from set word value last =
    all_spaced (map word (filter set (range_with_len value (last - value))))
