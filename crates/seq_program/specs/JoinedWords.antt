-- Words joined by spaces to lines that end with LF.
use Rattle.std.specs.Prelude.{◌≡◌, ℕ, Bool, true, ◌&&◌, nat_lt, List, [], ◌∷◌, ◌++◌, map}
use Rattle.std.specs.List.{list_all, join_with_byte, flat_map}
use Rattle.texts.specs.Ascii as ascii
use Rattle.texts.specs.Words.{is_nonempty, lines_by_feed}

-- bytes over `#`, which the spaces, the ends of lines and the comments are not
abbrev pub is_word_byte : ℕ → Bool
is_word_byte b = nat_lt ascii.number_sign b

abbrev pub is_word : List ℕ → Bool
is_word word = is_nonempty word && list_all is_word_byte word

-- one space between words, and LF at the end
abbrev pub ended : List (List ℕ) → List ℕ
ended words = join_with_byte ascii.space words ++ ascii.line_feed ∷ []

-- the lines of a text are those that were ended
abbrev pub LinesReadBack : Type 0
LinesReadBack = (words : List (List (List ℕ))) → list_all (list_all is_word) words ≡ true
    → lines_by_feed (flat_map ended words) ≡ map (join_with_byte ascii.space) words
