-- Rows of the code that cover one another, part by part. `Rows` says what that is for rows of a
-- board.
use Rattle.std.specs.Prelude.{◌≡◌, ℕ, List, length}
use Rattle.board.specs.Boards.{Board}
use Rattle.facts.specs.declared.domain.row.Row.{Row as CodeRow}
use Rattle.facts.specs.domain.Sets.{pages_in, protects_in, rails_in}
use Rattle.facts.specs.domain.Rows.{row_view, Admits, SetCovers, SpanCovers, SourceCovers, AllCover}
use Rattle.simulator.specs.Machines.{Machine, Entry}

abbrev pub PagesCover : ℕ → ℕ → Type 0
PagesCover s u = SetCovers (pages_in s) (pages_in u)

abbrev pub ProtectsCover : ℕ → ℕ → Type 0
ProtectsCover s u = SetCovers (protects_in s) (protects_in u)

abbrev pub CoversByPart : CodeRow → CodeRow → Type 0
CoversByPart s u =
    AllCover PagesCover s.pages.items u.pages.items
    × AllCover ProtectsCover s.protects.items u.protects.items
    × SetCovers (rails_in u.good) (rails_in s.good) × AllCover SpanCovers s.regs u.regs
    × AllCover SourceCovers s.sources u.sources × AllCover SpanCovers s.counters u.counters
    × SpanCovers s.lost u.lost

-- of equally many targets
pub record IsAlike (s u : CodeRow) : Type 0 where
  pub pages : length s.pages.items ≡ length u.pages.items
  pub protects : length s.protects.items ≡ length u.protects.items

-- a machine with its history, on a board
pub record Situation : Type 0 where
  pub board : Board
  pub machine : Machine
  pub history : List Entry

abbrev pub AdmitsAt : CodeRow → Situation → Type 0
AdmitsAt r at = Admits at.board (row_view r) at.machine at.history

-- a row of the code with a set of each kind for each target of the board
pub record IsSized (b : Board) (r : CodeRow) : Type 0 where
  pub pages : length r.pages.items ≡ length b.targets
  pub protects : length r.protects.items ≡ length b.targets
