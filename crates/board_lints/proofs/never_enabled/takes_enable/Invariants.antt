use Rattle.std.proofs.Common.{◌≡◌, ◌≤◌, true}
use Rattle.std.specs.List.{AllByRecursion}
use Rattle.pmbus_table.specs.Operation.{enabling}
use Rattle.board_lints.specs.Reasons.{has}
use Rattle.board_lints.proofs.never_enabled.takes_enable.Given as goal

-- each value that enables and that the entry takes is still to come
abbrev pub invariant-loop-value : goal.invariant-loop-value
invariant-loop-value l =
    AllByRecursion (λ e. has l.entry.values e ≡ true → l.value ≤ e) enabling
