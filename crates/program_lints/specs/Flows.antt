-- The code's words for how what is sure flows from place to place.
use Rattle.std.specs.Prelude.{◌≡◌, ◌⊎◌, ◌||◌, ◌&&◌, not, ℕ, List, [], ◌∷◌, Some, slice_get, map}
use Rattle.std.specs.Prelude.{All, IsTrue}
use Rattle.board.specs.Boards.{Board}
use Rattle.seq_program.specs.declared.instr.Instr.{Instr}
use Rattle.facts.specs.declared.domain.row.Row.{Row as CodeRow}
use Rattle.facts.specs.domain.Rows.{Row, IsRow, SetCovers, set_at}
use Rattle.facts.specs.domain.Sets.{Set, rails_in}
use Rattle.facts.specs.transfer.Edges.{Edge}
use Rattle.facts.specs.transfer.TimedEdges.{HasTimed, timed_edges}
use Rattle.facts.specs.transfer.Ways.{timed_view}
use Rattle.table_check.specs.Tables.{Table, row_of}
use Rattle.table_check.specs.checker.ByPlace.{MeetsAll}
use Rattle.program_lints.specs.declared.flow.Flow.{Flow}
use Rattle.program_lints.specs.Changes.{After}

-- an arrow from a place to another is among these
abbrev pub HasArrow : List (ℕ × ℕ) → ℕ → ℕ → Type 0
HasArrow [] from to = ⊥
HasArrow (x ∷ xs) from to = ((x.0 ≡ from) × (x.1 ≡ to)) ⊎ HasArrow xs from to

-- there is an arrow for each edge of a place, where its row is one of the board and its
-- instruction meets its duties
abbrev pub HasEdges : Board → List Instr → Table → List (ℕ × ℕ) → ℕ → Type 0
HasEdges b p t arrows place =
    (i : Instr) (row : Row) (e : Edge) (ticks : ℕ)
    → slice_get p place ≡ Some i → row_of t place ≡ Some row → IsRow b row → MeetsAll b i row
    → HasTimed (timed_edges b place i row) e ticks → HasArrow arrows place e.to

-- the arrow of an edge from a place
abbrev pub arrow_from : ℕ → ℕ × CodeRow × ℕ → ℕ × ℕ
arrow_from place e = (place, e.0)

-- the edges of a place with such a row
abbrev pub AreEdges : Board → List Instr → Table → ℕ → List (ℕ × CodeRow × ℕ) → Type 0
AreEdges b p t place es =
    (i : Instr) (row : Row) → slice_get p place ≡ Some i → row_of t place ≡ Some row
    → IsRow b row → MeetsAll b i row → map timed_view es ≡ timed_edges b place i row

abbrev pub HasAllEdges : Board → List Instr → Table → List (ℕ × ℕ) → Type 0
HasAllEdges b p t arrows = (place : ℕ) → HasEdges b p t arrows place

-- what is sure after an arrow
abbrev pub flow_after : Flow → Set → Set
flow_after f before = λ d. (before d || rails_in f.gains d) && not (rails_in f.loses d)

abbrev pub arrow_of : Flow → ℕ × ℕ
arrow_of f = (f.from, f.to)

-- what is sure after it is sure after the instruction
abbrev pub IsFlow : After → Board → List Instr → Table → Flow → Type 0
IsFlow after b p t f =
    (i : Instr) (row : Row) (before : Set) (d : ℕ)
    → slice_get p f.from ≡ Some i → row_of t f.from ≡ Some row
    → IsTrue (flow_after f before d) → after b row i f.to before d

-- such a flow for each arrow
pub record AreFlows (after : After) (b : Board) (p : List Instr) (t : Table)
    (arrows : List (ℕ × ℕ)) (flows : List Flow) : Type 0 where
  pub along : map arrow_of flows ≡ arrows
  pub each : All (IsFlow after b p t) flows

-- what is sure at its end is sure after it
abbrev pub IsKept : List Set → Flow → Type 0
IsKept sets f = SetCovers (flow_after f (set_at sets f.from)) (set_at sets f.to)
