use Rattle.std.proofs.Common.{◌≡◌, ◌++◌, drop}
use Rattle.std.specs.Prelude.{flat_map}
use Rattle.board_lints.specs.Lints.{address_lints}
use Rattle.board_lints.proofs.foreign.push_addresses.Given as goal

-- the lints so far, and those that are left, are all
abbrev pub invariant-loop-address : goal.invariant-loop-address
invariant-loop-address l =
    l.lints.items ++ flat_map (address_lints l.board) (drop l.address-index l.board.foreign)
    ≡ l.fn.lints.items ++ flat_map (address_lints l.board) l.board.foreign
