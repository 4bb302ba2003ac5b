-- The code's words for sets of start values. No public contract cites this.
use Rattle.std.specs.Prelude.{ℕ, List}
use Rattle.std.specs.List.{AllZip}
use Rattle.board.specs.Boards.{Target}
use Rattle.facts.specs.domain.Sets.{is_page, is_protect, pages_in, protects_in}
use Rattle.ways.specs.Ways.{IsChosen}

-- of each target a set of values that it may start with
abbrev pub AreStartPages : List Target → List ℕ → Type 0
AreStartPages targets sets =
    AllZip (λ t set. IsChosen is_page t.start_pages (pages_in set)) targets sets

abbrev pub AreStartProtects : List Target → List ℕ → Type 0
AreStartProtects targets sets =
    AllZip (λ t set. IsChosen is_protect t.start_protects (protects_in set)) targets sets
