use Rattle.std.proofs.Common.{◌≡◌, ◌++◌, map, drop}
use Rattle.drafts.specs.Requests.{opening}
use Rattle.drafts.proofs.requests.push_openings.Given as goal

-- the messages so far, and those that are left, are all
abbrev pub invariant-loop-target : goal.invariant-loop-target
invariant-loop-target l =
    l.requests.items ++ map opening (drop l.target-index l.targets)
    ≡ l.fn.requests.items ++ map opening l.targets
