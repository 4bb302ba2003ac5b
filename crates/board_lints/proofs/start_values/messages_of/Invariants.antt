use Rattle.std.proofs.Common.{◌≡◌, ◌++◌, drop}
use Rattle.board_lints.specs.Reasons.{sent_by}
use Rattle.board_lints.proofs.start_values.messages_of.Given as goal

-- the messages so far, and those of the places that are left, are all
abbrev pub invariant-loop-place : goal.invariant-loop-place
invariant-loop-place l =
    l.messages.items ++ sent_by l.board (drop l.place l.program) ≡ sent_by l.board l.program
