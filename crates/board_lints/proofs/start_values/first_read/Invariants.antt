use Rattle.std.proofs.Common.{◌≡◌, drop}
use Rattle.std.specs.Prelude.{find}
use Rattle.board_lints.specs.Reasons.{is_read_of_page}
use Rattle.board_lints.proofs.start_values.first_read.Given as goal

-- the first of what is left is the first of all
abbrev pub invariant-loop-message : goal.invariant-loop-message
invariant-loop-message l =
    find (is_read_of_page l.device) (drop l.message-index l.messages)
    ≡ find (is_read_of_page l.device) l.messages
