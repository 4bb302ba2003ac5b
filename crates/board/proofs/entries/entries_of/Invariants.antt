use Rattle.std.proofs.Common.{◌≡◌, []}
use Rattle.board.specs.Elements.{tables_left}
use Rattle.board.specs.Entries.{entries_of}
use Rattle.board.proofs.entries.entries_of.Given as goal

abbrev pub invariant-loop-table : goal.invariant-loop-table
invariant-loop-table l =
    entries_of l.target l.entries (tables_left l.table-iterator)
    ≡ entries_of l.target [] (tables_left l.fn.tables)
