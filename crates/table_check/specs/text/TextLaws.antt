-- Tables and their texts.
use Rattle.std.specs.Prelude.{◌≡◌, ℕ, List, Some}
use Rattle.board.specs.Boards.{Board}
use Rattle.board.specs.Valid.{IsBoard}
use Rattle.facts.specs.domain.Rows.{Row}
use Rattle.table_check.specs.Tables.{Table, row_of}
use Rattle.table_check.specs.text.Lines.{table_text}
use Rattle.table_check.specs.text.Writable.{IsWritable}
use Rattle.table_check.specs.text.Texts.{IsTextOf}

abbrev pub TextsHaveOneTable : Type 0
TextsHaveOneTable =
    (b : Board) (t u : Table) (text : List ℕ) → IsBoard b → IsTextOf b t text → IsTextOf b u text
    → t ≡ u

abbrev pub TablesHaveTexts : Type 0
TablesHaveTexts =
    (b : Board) (t : Table) → IsBoard b → IsWritable b t → IsTextOf b t (table_text b t)

-- a table with a row, and its text
pub record SomeTable (b : Board) : Type 0 where
  pub table : Table
  pub row : Row
  pub first : row_of table 0 ≡ Some row
  pub text : List ℕ
  pub is : IsTextOf b table text

abbrev pub BoardsHaveTables : Type 0
BoardsHaveTables = (b : Board) → IsBoard b → SomeTable b
