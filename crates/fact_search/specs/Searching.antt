-- The code's words for a search. No public contract cites this: `Finds` says what is asked.
use Rattle.std.specs.Prelude.{◌≡◌, ◌<◌, ◌⊎◌, ℕ, List, [], Bool, false, length, slice_get}
use Rattle.std.specs.Prelude.{slice_index_or}
use Rattle.std.specs.Prelude.{Option, Some, option_and_then}
use Rattle.board.specs.Boards.{Board}
use Rattle.board.specs.Valid.{IsBoard}
use Rattle.seq_program.specs.declared.instr.Instr.{Instr}
use Rattle.seq_program.specs.Valid.{IsProgram, jump_in}
use Rattle.facts.specs.transfer.Edges.{Edge}
use Rattle.facts.specs.FactLaws.{DutiesAreKept, EdgesFollow, EdgesStayShaped, without_ticks}
use Rattle.facts.specs.domain.Rows.{Row, IsRow, RowCovers}
use Rattle.facts.specs.transfer.TimedEdges.{HasTimed, timed_edges}
use Rattle.table_check.specs.checker.ByPlace.{FollowingTablesTellDuties, InductiveByPlace, MeetsAll}
use Rattle.table_check.specs.checker.Looking.{HasRowsOf}
use Rattle.table_check.specs.checker.Obligations.{IsInductive}
use Rattle.table_check.specs.checker.Rules.{IsCovered}
use Rattle.facts.specs.well_formed.Starts.{HoldsStarts}
use Rattle.table_check.specs.Tables.{Table, row_of}
use Rattle.fact_search.specs.Forward.{IsForward}

-- where the instruction of a place may jump to
abbrev pub jump_at : List Instr → ℕ → Option ℕ
jump_at p place = option_and_then jump_in (slice_get p place)

-- what a search rests on: what the board and the program keep to, and the laws of the layers below
pub record Premises (b : Board) (p : List Instr) : Type 0 where
  pub board : IsBoard b
  pub program : IsProgram p
  pub duties : DutiesAreKept
  pub edges : EdgesFollow
  pub shapes : EdgesStayShaped
  pub by_place : InductiveByPlace
  pub verdicts : FollowingTablesTellDuties

-- the least row that covers two rows
pub record IsJoined (b : Board) (r s u : Row) : Type 0 where
  pub shaped : IsRow b r
  pub first : RowCovers b r s
  pub second : RowCovers b r u
  pub least : (w : Row) → RowCovers b w s → RowCovers b w u → RowCovers b w r

-- a row that covers two rows, and is the least that does, unless it was widened
pub record IsGrown (b : Board) (r s u : Row) (back : Bool) : Type 0 where
  pub shaped : IsRow b r
  pub first : RowCovers b r s
  pub second : RowCovers b r u
  pub least : back ≡ false → (w : Row) → RowCovers b w s → RowCovers b w u → RowCovers b w r

-- the edges of a place with their ticks, where its duties are met; otherwise none
abbrev pub AreEdgesAt : Board → List Instr → Table → ℕ → List (Edge × ℕ) → Type 0
AreEdgesAt b p t place es =
    ((es ≡ [])
    × ((i : Instr) (row : Row) → slice_get p place ≡ Some i → row_of t place ≡ Some row
    → MeetsAll b i row → ⊥))
    ⊎ ((i : Instr) × (row : Row) × (slice_get p place ≡ Some i) × (row_of t place ≡ Some row)
    × MeetsAll b i row × (es ≡ timed_edges b place i row))

-- the row of a place changed since the place was visited
abbrev pub is_changed : List Bool → ℕ → Bool
is_changed changed place = slice_index_or changed place false

-- where the duties of a place are met, its edges are covered
abbrev pub IsFollowed : Board → List Instr → Table → ℕ → Type 0
IsFollowed b p t place =
    (i : Instr) (row : Row) → slice_get p place ≡ Some i → row_of t place ≡ Some row
    → MeetsAll b i row → (e : Edge) (ticks : ℕ) → HasTimed (timed_edges b place i row) e ticks
    → IsCovered b t e

-- every table that keeps the rule book covers each row
abbrev pub IsBelow : Board → List Instr → Table → Type 0
IsBelow b p t =
    (any : Table) → IsInductive b p any → (place : ℕ) (row : Row) → row_of t place ≡ Some row
    → (above : Row) × (row_of any place ≡ Some above) × RowCovers b above row

-- place 0 has a row, which holds every start, whatever its ticks are
abbrev pub KnowsStarts : Board → Table → Type 0
KnowsStarts b t =
    (row : Row) × (row_of t 0 ≡ Some row) × HoldsStarts b (without_ticks row)

-- what a search keeps: rows of the board with the start, which are followed wherever they didn't
-- change since; and of a forward program no more than any table knows that keeps the rule book
pub record IsSearched (b : Board) (p : List Instr) (t : Table) (changed : List Bool) : Type 0
  where
    pub places : length t ≡ length p
    pub flags : length changed ≡ length p
    pub rows : HasRowsOf b t
    pub start : KnowsStarts b t
    pub followed : (place : ℕ) → is_changed changed place ≡ false → IsFollowed b p t place
    pub below : IsForward p → IsBelow b p t

-- a table after an edge's row was joined into the row where it leads
pub record IsLearnt (b : Board) (place : ℕ) (t new : Table) (e : Edge) (changed : Bool) : Type 0
  where
    pub places : length new ≡ length t
    pub rows : HasRowsOf b new
    pub same : (n : ℕ) → (n ≡ e.to → ⊥) → row_of new n ≡ row_of t n
    pub kept : changed ≡ false → row_of new e.to ≡ row_of t e.to
    pub covered : IsCovered b new e
    pub grown : (row : Row) → row_of t e.to ≡ Some row
        → (wider : Row) × (row_of new e.to ≡ Some wider) × RowCovers b wider row
    pub least : place < e.to → (above : Row)
        → ((row : Row) → row_of t e.to ≡ Some row → RowCovers b above row)
        → RowCovers b above e.row → (row : Row) → row_of new e.to ≡ Some row
        → RowCovers b above row

-- the same at its end: all rows are followed
pub record IsFollowedTable (b : Board) (p : List Instr) (t : Table) : Type 0 where
  pub places : length t ≡ length p
  pub rows : HasRowsOf b t
  pub start : KnowsStarts b t
  pub followed : (place : ℕ) → IsFollowed b p t place
  pub below : IsForward p → IsBelow b p t
