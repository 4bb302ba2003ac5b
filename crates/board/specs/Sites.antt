-- Faults with where they are.
use Rattle.std.specs.Prelude.{ℕ}
use Rattle.board.specs.declared.fault.FaultKind.{FaultKind}
use Rattle.board.specs.declared.fault.FaultKind.TheVariants.{Memory}
use Rattle.board.specs.declared.fault.BoardFault.{BoardFault}
use Rattle.board.specs.declared.key.Key.{Key}
use Rattle.board.specs.declared.site.Place.{Place}
use Rattle.board.specs.declared.site.Place.TheVariants.{Board}
use Rattle.board.specs.declared.site.At.{At}
use Rattle.board.specs.declared.site.At.TheVariants as part

abbrev pub fault_at : FaultKind → Place → At → BoardFault
fault_at kind table at = record { kind = kind; site = record { table = table; at = at } }

-- of a table as a whole
abbrev pub table_fault : FaultKind → Place → BoardFault
table_fault kind table = fault_at kind table part.Table

-- at a key
abbrev pub key_fault : FaultKind → Place → Key → BoardFault
key_fault kind table key = fault_at kind table (part.Key key)

-- of an item of the list at a key
abbrev pub item_fault : FaultKind → Place → Key → ℕ → BoardFault
item_fault kind table key item = fault_at kind table (part.Item key item)

-- that memory ran out, which is no fault of the file
abbrev pub out_of_memory : BoardFault
out_of_memory = table_fault Memory Board
