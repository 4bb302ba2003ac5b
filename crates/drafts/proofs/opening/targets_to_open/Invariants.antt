use Rattle.std.proofs.Common.{◌≡◌, ◌++◌, ◌-◌, ℕ, Bool, length, filter}
use Rattle.std.specs.List.{range_with_len}
use Rattle.drafts.specs.Opening.{has_to_open}
use Rattle.drafts.proofs.opening.targets_to_open.Given as goal

-- the targets so far, and those that are left and pass, are all that pass
abbrev pub invariant-loop-target : goal.invariant-loop-target
invariant-loop-target l =
    let test : ℕ → Bool = has_to_open l.board l.plan.wishes.items in
    let count = length l.board.targets in
    l.targets.items ++ filter test (range_with_len l.target (count - l.target))
    ≡ filter test (range_with_len 0 count)
