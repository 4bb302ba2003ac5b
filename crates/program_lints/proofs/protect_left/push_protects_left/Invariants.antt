use Rattle.std.proofs.Common.{◌≡◌, ◌++◌, drop}
use Rattle.std.specs.Prelude.{flat_map}
use Rattle.std.specs.List.{enumerate_from}
use Rattle.facts.specs.domain.Rows.{row_view}
use Rattle.table_check.specs.Tables.{table_view}
use Rattle.program_lints.specs.Lints.{protect_lints}
use Rattle.program_lints.proofs.protect_left.push_protects_left.Given as goal

-- the lints so far, and those that are left, are all
abbrev pub invariant-loop-target : goal.invariant-loop-target
invariant-loop-target l =
    l.lints.items
    ++ flat_map
    (protect_lints l.program (table_view l.table) (row_view l.row) l.instr l.fn.place)
    (enumerate_from l.target (drop l.target l.board.targets))
    ≡ l.fn.lints.items
    ++ flat_map
    (protect_lints l.program (table_view l.table) (row_view l.row) l.instr l.fn.place)
    (enumerate_from 0 l.board.targets)
