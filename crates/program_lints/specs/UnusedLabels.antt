-- Labels of a program's text to which no line jumps.
use Rattle.std.specs.Prelude.{ℕ, ◌-◌, ◌&&◌, Bool, List, [], length, nat_lt, slice_index_or}
use Rattle.std.specs.Prelude.{Option, Some, None, if◌then◌else◌}
use Rattle.std.specs.Borrow.{Bor}
use Rattle.std.specs.List.{enumerate_from, filter_map, list_any}
use Rattle.std.specs.Str.{bytes_eq}
use Rattle.indexmap.specs.IndexSet.{IndexSet}
use Rattle.seq_program.specs.Labels.{label_in, words_on}

-- a line of several words that ends with a name: where the name is a label's, the line jumps to it
abbrev pub ends_with : List ℕ → List (List ℕ) → Bool
ends_with name words =
    nat_lt 1 (length words) && bytes_eq name (slice_index_or words (length words - 1) [])

-- some line of these jumps to the label of a name
abbrev pub is_jumped_to : List (List ℕ) → List ℕ → Bool
is_jumped_to lines name = list_any (λ line. ends_with name (words_on line)) lines

-- the number of a line, if it has a label that isn't among these
abbrev pub unused_at : (List ℕ → Bool) → ℕ → Option (List ℕ) → Option ℕ
unused_at jumped n None = None
unused_at jumped n (Some name) = if jumped name then None else Some n

abbrev pub unused_on : (List ℕ → Bool) → ℕ × List ℕ → Option ℕ
unused_on jumped line = unused_at jumped line.0 (label_in (words_on line.1))

abbrev pub unused_among : (List ℕ → Bool) → ℕ → List (List ℕ) → List ℕ
unused_among jumped n lines = filter_map (unused_on jumped) (enumerate_from n lines)

-- the numbers of the lines whose labels nothing jumps to
abbrev pub unused_labels : List (List ℕ) → List ℕ
unused_labels lines = unused_among (is_jumped_to lines) 1 lines

-- whether a name is in a set. Private functions work with it
abbrev pub is_among : {S : Type 0} → IndexSet (Bor (List ℕ)) S → List ℕ → Bool
is_among names name = list_any (λ n. bytes_eq name n.now) names.keys
