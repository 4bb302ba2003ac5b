use Rattle.std.proofs.Common.{◌≡◌, map, drop, max}
use Rattle.board_lints.specs.Lints.{entry_voltage, greatest}
use Rattle.board_lints.proofs.unreachable_limit.greatest_voltage.Given as goal

-- the greatest so far, and those that are left
abbrev pub invariant-loop-entry : goal.invariant-loop-entry
invariant-loop-entry l =
    max l.greatest (greatest (map entry_voltage (drop l.entry-index l.device.allow)))
    ≡ greatest (map entry_voltage l.device.allow)
