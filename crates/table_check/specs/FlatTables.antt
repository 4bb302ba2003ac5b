-- Tables that say nothing of lost arbitrations.
use Rattle.std.specs.Prelude.{◌≡◌, ℕ, Some}
use Rattle.board.specs.Boards.{Board}
use Rattle.facts.specs.domain.Rows.{Row}
use Rattle.table_check.specs.Tables.{Table, row_of}

-- there may be any number of them, at no cost
pub record IsFlatRow (b : Board) (r : Row) : Type 0 where
  pub lost : r.lost ≡ record { lo = 0; hi = b.contentions }
  pub lost_coeff : r.lost_coeff ≡ 0

abbrev pub IsFlat : Board → Table → Type 0
IsFlat b t = (place : ℕ) (row : Row) → row_of t place ≡ Some row → IsFlatRow b row
