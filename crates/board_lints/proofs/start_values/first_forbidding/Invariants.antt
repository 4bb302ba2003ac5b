use Rattle.std.proofs.Common.{◌≡◌, ℕ, Bool, drop}
use Rattle.std.specs.Prelude.{find}
use Rattle.std.specs.List.{list_any}
use Rattle.board_lints.specs.Reasons.{is_forbidden}
use Rattle.board_lints.proofs.start_values.first_forbidding.Given as goal

-- the first of what is left is the first of all
abbrev pub invariant-loop-protect : goal.invariant-loop-protect
invariant-loop-protect l =
    let forbids : ℕ → Bool = λ protect. list_any (is_forbidden l.device protect) l.messages in
    find forbids (drop l.protect-index l.device.start_protects)
    ≡ find forbids l.device.start_protects
