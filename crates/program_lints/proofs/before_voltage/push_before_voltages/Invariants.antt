use Rattle.std.proofs.Common.{◌≡◌, ◌++◌, drop}
use Rattle.std.specs.Prelude.{flat_map}
use Rattle.std.specs.List.{enumerate_from}
use Rattle.facts.specs.domain.Rows.{row_view}
use Rattle.facts.specs.domain.Sets.{rails_in}
use Rattle.program_lints.specs.Lints.{voltage_lints}
use Rattle.program_lints.proofs.before_voltage.push_before_voltages.Given as goal

-- the lints so far, and those that are left, are all
abbrev pub invariant-loop-index : goal.invariant-loop-index
invariant-loop-index l =
    l.lints.items
    ++ flat_map
    (voltage_lints l.board (row_view l.row) l.instr (rails_in l.fn.voltages) l.fn.place)
    (enumerate_from l.index (drop l.index l.board.rails))
    ≡ l.fn.lints.items
    ++ flat_map
    (voltage_lints l.board (row_view l.row) l.instr (rails_in l.fn.voltages) l.fn.place)
    (enumerate_from 0 l.board.rails)
