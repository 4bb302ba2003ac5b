-- Names and rows of the code as rows of the table.
use Rattle.std.specs.Prelude.{ℕ, List, Option, ◌==◌, find}
use Rattle.std.specs.Borrow.{Bor}
use Rattle.std.specs.Str.{bytes_eq}
use Rattle.pmbus_table.specs.declared.table.Row.{Row as CodeRow}
use Rattle.pmbus_table.specs.Table.{Row, row}

abbrev pub Named : Type 0
Named = Bor (List ℕ) × CodeRow

abbrev pub row_view : Named → Row
row_view r = row r.1.code r.0.now r.1.written r.1.read r.1.is_paged

-- the first with this code, and the first with this name
unfoldable pub find_code : List Named → ℕ → Option Named
find_code rows code = find (λ r. r.1.code == code) rows

unfoldable pub find_name : List Named → List ℕ → Option Named
find_name rows name = find (λ r. bytes_eq r.0.now name) rows
