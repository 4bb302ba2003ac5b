-- The lines of a text, the words of a line, and what a word stands for.
use Rattle.std.specs.Prelude.{ℕ, List, [], ◌∷◌, Bool, ◌==◌, filter, length, nat_lt, if◌then◌else◌}
use Rattle.std.specs.Prelude.{Option, Some, None}
use Rattle.std.specs.List.{slice_split}
use Rattle.std.specs.Str.{bytes_eq}
use Rattle.texts.specs.Ascii as ascii

abbrev pub is_nonempty : List ℕ → Bool
is_nonempty xs = nat_lt 0 (length xs)

-- the nonempty parts between spaces
abbrev pub words_of : List ℕ → List (List ℕ)
words_of line = filter is_nonempty (slice_split (λ b. b == ascii.space) line)

-- an empty part behind the last line feed is no line
abbrev pub without_empty_end : List (List ℕ) → List (List ℕ)
without_empty_end [] = []
without_empty_end (line ∷ []) = if length line == 0 then [] else line ∷ []
without_empty_end (line ∷ next ∷ later) = line ∷ without_empty_end (next ∷ later)

-- the parts between line feeds: a carriage return is a character like any other
abbrev pub lines_by_feed : List ℕ → List (List ℕ)
lines_by_feed text = without_empty_end (slice_split (λ b. b == ascii.line_feed) text)

-- what a word stands for in a table: the first entry with that word tells it
abbrev pub named_among : {A : Type 0} → List ℕ → List (List ℕ × A) → Option A
named_among word [] = None
named_among word (entry ∷ later) =
    if bytes_eq word entry.0 then Some entry.1 else named_among word later
