-- The names of the rails in a set.
use Rattle.std.specs.Prelude.{ℕ, List, length, map}
use Rattle.std.specs.List.{filter, range_with_len}
use Rattle.board.specs.Boards.{Board}
use Rattle.facts.specs.domain.Sets.{rails_in}
use Rattle.sentences.specs.Words.{name_at}

abbrev pub names_of : Board → List ℕ → List (List ℕ)
names_of board rails = map (λ rail. name_at rail board.rail_names) rails

-- in the order of the board
abbrev pub names_in : Board → ℕ → List (List ℕ)
names_in board rails =
    names_of board (filter (rails_in rails) (range_with_len 0 (length board.rails)))
