use Rattle.std.proofs.Common.{◌≡◌}
use Rattle.board.specs.Elements.{tables_left}
use Rattle.board.specs.Named.{named_view, no_named}
use Rattle.board.specs.Targets.{targets_of}
use Rattle.board.proofs.targets.targets_of.Given as goal

abbrev pub invariant-loop-table : goal.invariant-loop-table
invariant-loop-table l =
    targets_of (named_view l.targets) (tables_left l.table-iterator)
    ≡ targets_of no_named (tables_left l.fn.tables)
