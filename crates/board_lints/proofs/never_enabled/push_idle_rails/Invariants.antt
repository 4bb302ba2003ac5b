use Rattle.std.proofs.Common.{◌≡◌, ◌++◌, drop}
use Rattle.std.specs.Prelude.{flat_map}
use Rattle.std.specs.List.{enumerate_from}
use Rattle.board_lints.specs.Lints.{idle_lints}
use Rattle.board_lints.proofs.never_enabled.push_idle_rails.Given as goal

-- the lints so far, and those that are left, are all
abbrev pub invariant-loop-index : goal.invariant-loop-index
invariant-loop-index l =
    l.lints.items
    ++ flat_map (idle_lints l.board) (enumerate_from l.index (drop l.index l.board.rails))
    ≡ l.fn.lints.items ++ flat_map (idle_lints l.board) (enumerate_from 0 l.board.rails)
