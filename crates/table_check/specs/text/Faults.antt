-- The numbers, the names and the lines of the faults, and what it means that a function reads a
-- part of a table.
use Rattle.std.specs.Prelude.{ℕ, List, Option, Some, None, Result, codes}
use Rattle.texts.specs.Reading.{GivesUnless}
use Rattle.table_check.specs.declared.text.fault.TableFault.{TableFault}
use Rattle.table_check.specs.declared.text.fault.TableFault.TheVariants as fault

abbrev pub number_of : TableFault → ℕ
number_of fault.Memory = 1
number_of (fault.BadLine line) = 2

abbrev pub name_of : TableFault → List ℕ
name_of fault.Memory = codes "Memory"
name_of (fault.BadLine line) = codes "BadLine"

abbrev pub line_of : TableFault → Option ℕ
line_of fault.Memory = None
line_of (fault.BadLine line) = Some line

-- what a function returned, seen by view, is what reading gives, unless memory ran out
abbrev pub Gives : {X Y : Type 0} → (X → Y) → Result X TableFault → Result Y TableFault → Type 0
Gives view result read = GivesUnless fault.Memory view result read
