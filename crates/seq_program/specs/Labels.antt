-- The labels of a text: each names the place of the next instruction.
use Rattle.std.specs.Prelude.{ℕ, ◌+◌, ◌-◌, List, [], ◌∷◌, ◌++◌, length, take, slice_index, Bool}
use Rattle.std.specs.Prelude.{false, ◌==◌, Option, Some, None, option_map, find, if◌then◌else◌}
use Rattle.std.specs.List.{list_any}
use Rattle.std.specs.Str.{bytes_eq}
use Rattle.texts.specs.Cuts.{without_comment}
use Rattle.texts.specs.Words.{words_of}
use Rattle.seq_program.specs.Operands.{label_of}
use Rattle.texts.specs.Ascii as ascii

abbrev pub words_on : List ℕ → List (List ℕ)
words_on line = words_of (without_comment line)

-- the name before a colon
abbrev pub label_name : List ℕ → Option (List ℕ)
label_name word =
    if slice_index word (length word - 1) == ascii.colon then label_of (take (length word - 1) word)
    else None

-- the label that a line's words are: one word with a colon
abbrev pub label_in : List (List ℕ) → Option (List ℕ)
label_in (word ∷ []) = label_name word
label_in _ = None

-- a label, the place that it names, and its line
pub record Label : Type 0 where
  pub name : List ℕ
  pub place : ℕ
  pub line : ℕ

-- what a line adds to the labels, and to the places: a line of words that are no label has one
abbrev pub labels_on : ℕ → ℕ → Option (List ℕ) → List Label
labels_on n place None = []
labels_on n place (Some name) = record { name = name; place = place; line = n } ∷ []

abbrev pub places_on : List (List ℕ) → Option (List ℕ) → ℕ
places_on words (Some name) = 0
places_on [] None = 0
places_on (word ∷ words) None = 1

-- all labels of the lines from the one with this number on, where that one's place is known
abbrev pub labels_from : ℕ → ℕ → List (List ℕ) → List Label
labels_from n place [] = []
labels_from n place (line ∷ more) =
    labels_on n place (label_in (words_on line))
    ++ labels_from (n + 1) (place + places_on (words_on line) (label_in (words_on line))) more

abbrev pub has_label : List ℕ → List Label → Bool
has_label name labels = list_any (λ l. bytes_eq name l.name) labels

-- these labels, and then the first of each further name
abbrev pub with_label : List Label → Label → List Label
with_label labels l = if has_label l.name labels then labels else labels ++ l ∷ []

abbrev pub with_labels : List Label → List Label → List Label
with_labels labels [] = labels
with_labels labels (l ∷ more) = with_labels (with_label labels l) more

-- the labels of a text's lines, the first of each name
abbrev pub labels_of : List (List ℕ) → List Label
labels_of lines = with_labels [] (labels_from 1 0 lines)

-- the place and the line of a label
abbrev pub label_named : List ℕ → List Label → Option Label
label_named name labels = find (λ l. bytes_eq name l.name) labels

abbrev pub place_of : List Label → List ℕ → Option ℕ
place_of labels name = option_map (λ l. l.place) (label_named name labels)

abbrev pub line_of : List Label → List ℕ → Option ℕ
line_of labels name = option_map (λ l. l.line) (label_named name labels)

-- whether a line is the first that has the label
abbrev pub is_line : ℕ → Option ℕ → Bool
is_line n None = false
is_line n (Some line) = line == n

abbrev pub is_first : List Label → ℕ → List ℕ → Bool
is_first labels n name = is_line n (line_of labels name)
