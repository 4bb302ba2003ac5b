-- Texts of tables, and where a text that is none goes wrong.
use Rattle.std.specs.Prelude.{◌≡◌, ◌≤◌, ◌⊎◌, ℕ, suc, List, ◌++◌, length, take, Result, Ok, Err}
use Rattle.texts.specs.Words.{lines_by_feed}
use Rattle.board.specs.Boards.{Board}
use Rattle.table_check.specs.declared.text.fault.TableFault.{TableFault}
use Rattle.table_check.specs.declared.text.fault.TableFault.TheVariants as fault
use Rattle.table_check.specs.declared.table.Table.{Table as CodeTable}
use Rattle.table_check.specs.Tables.{Table, table_view}
use Rattle.table_check.specs.FlatTables.{IsFlat}
use Rattle.table_check.specs.declared.text.version.Version.{Version}
use Rattle.table_check.specs.declared.text.version.Version.TheVariants.{First, Second}
use Rattle.table_check.specs.text.Lines.{table_lines}
use Rattle.table_check.specs.text.Writable.{IsWritable}

abbrev pub Lines : Type 0
Lines = List (List ℕ)

-- a text of the first form says nothing of lost arbitrations
abbrev pub CanBeSaid : Version → Board → Table → Type 0
CanBeSaid First b t = IsFlat b t
CanBeSaid Second b t = Unit {0}

-- the table can be written, and these are its lines in one of the forms
abbrev pub AreLinesOf : Board → Table → Lines → Type 0
AreLinesOf b t lines =
    IsWritable b t × ((v : Version) × CanBeSaid v b t × (lines ≡ table_lines v b t))

abbrev pub IsTextOf : Board → Table → List ℕ → Type 0
IsTextOf b t text = AreLinesOf b t (lines_by_feed text)

-- lines with which some table's lines begin
pub record Begins (b : Board) (lines : Lines) : Type 0 where
  pub version : Version
  pub table : Table
  pub writable : IsWritable b table
  pub said : CanBeSaid version b table
  pub more : Lines
  pub all : table_lines version b table ≡ lines ++ more

-- up to the line before this one some table's lines begin so, with it none
pub record IsWrongAt (b : Board) (lines : Lines) (before : ℕ) : Type 0 where
  pub there : suc before ≤ length lines
  pub good : Begins b (take before lines)
  pub bad : Begins b (take (suc before) lines) → ⊥

-- some table's lines begin so, and end later
pub record EndsEarly (b : Board) (lines : Lines) (before : ℕ) : Type 0 where
  pub all : before ≡ length lines
  pub good : Begins b lines
  pub bad : (t : Table) → AreLinesOf b t lines → ⊥

-- the first bad line, counted from 1: one more than so many lines are before it
abbrev pub IsFirstBadAfter : Board → Lines → ℕ → Type 0
IsFirstBadAfter b lines before = IsWrongAt b lines before ⊎ EndsEarly b lines before

pub record IsFirstBadLine (b : Board) (lines : Lines) (n : ℕ) : Type 0 where
  pub before : ℕ
  pub number : n ≡ suc before
  pub first : IsFirstBadAfter b lines before

-- what reading answers is this table, unless memory ran out
abbrev pub AnswersTable : Result CodeTable TableFault → Table → Type 0
AnswersTable (Ok read) t = table_view read ≡ t
AnswersTable (Err e) t = e ≡ fault.Memory

-- so is each table whose lines these are
abbrev pub FindsTable : Board → Lines → Result CodeTable TableFault → Type 0
FindsTable b lines answer = (t : Table) → AreLinesOf b t lines → AnswersTable answer t

-- and the fault, unless it is that, carries the first bad line
abbrev pub CarriesFirst : Board → Lines → TableFault → Type 0
CarriesFirst b lines fault.Memory = Unit {0}
CarriesFirst b lines (fault.BadLine n) = IsFirstBadLine b lines n
