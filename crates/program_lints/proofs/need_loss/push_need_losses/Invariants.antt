use Rattle.std.proofs.Common.{◌≡◌, ◌++◌, drop}
use Rattle.std.specs.Prelude.{flat_map}
use Rattle.std.specs.List.{enumerate_from}
use Rattle.facts.specs.domain.Rows.{row_view}
use Rattle.facts.specs.domain.Sets.{rails_in}
use Rattle.program_lints.specs.Lints.{need_loss}
use Rattle.program_lints.proofs.need_loss.push_need_losses.Given as goal

-- the lints so far, and those that are left, are all
abbrev pub invariant-loop-need : goal.invariant-loop-need
invariant-loop-need l =
    l.lints.items
    ++ flat_map (need_loss l.board (row_view l.row) l.instr (rails_in l.fn.on) l.fn.place)
    (enumerate_from l.need (drop l.need l.board.rails))
    ≡ l.fn.lints.items
    ++ flat_map (need_loss l.board (row_view l.row) l.instr (rails_in l.fn.on) l.fn.place)
    (enumerate_from 0 l.board.rails)
