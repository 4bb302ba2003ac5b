-- The code's words for the row of the start. No public contract cites this.
use Rattle.std.specs.Prelude.{ℕ, List, [], ◌∷◌, IsTrue, All, Contains}
use Rattle.board.specs.Boards.{Board, Target}
use Rattle.facts.specs.domain.Rows.{Row, IsRow, RowCovers}
use Rattle.facts.specs.domain.Sets.{Set}
use Rattle.facts.specs.well_formed.Starts.{HoldsStarts}

-- a set of these values and no others
abbrev pub HoldsJust : Set → List ℕ → Type 0
HoldsJust set values =
    All (λ v. IsTrue (set v)) values × ((v : ℕ) → IsTrue (set v) → Contains values v)

-- a set for each target, of the values that it may start with
abbrev pub HoldEachStart : (ℕ → Set) → (Target → List ℕ) → List ℕ → List Target → Type 0
HoldEachStart set_of starts [] [] = Unit {0}
HoldEachStart set_of starts (set ∷ sets) (t ∷ targets) =
    HoldsJust (set_of set) (starts t) × HoldEachStart set_of starts sets targets
HoldEachStart set_of starts [] (t ∷ targets) = ⊥
HoldEachStart set_of starts (set ∷ sets) [] = ⊥

-- a row that knows of the start, and no more: every row that holds the starts covers it
pub record IsStartRow (b : Board) (row : Row) : Type 0 where
  pub shaped : IsRow b row
  pub holds : HoldsStarts b row
  pub least : (other : Row) → HoldsStarts b other → RowCovers b other row
