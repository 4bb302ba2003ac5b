use Rattle.std.proofs.Common.{◌≡◌, ◌++◌, drop}
use Rattle.std.specs.Prelude.{flat_map}
use Rattle.std.specs.List.{enumerate_from}
use Rattle.facts.specs.domain.Sets.{rails_in}
use Rattle.program_lints.specs.Lints.{need_lints}
use Rattle.program_lints.proofs.need_loss.push_need_lints.Given as goal

-- the lints so far, and those that are left, are all
abbrev pub invariant-loop-rail : goal.invariant-loop-rail
invariant-loop-rail l =
    l.lints.items
    ++ flat_map (need_lints (rails_in l.fn.leaning) (rails_in l.fn.on) l.fn.place l.fn.need)
    (enumerate_from l.rail (drop l.rail l.board.rails))
    ≡ l.fn.lints.items
    ++ flat_map (need_lints (rails_in l.fn.leaning) (rails_in l.fn.on) l.fn.place l.fn.need)
    (enumerate_from 0 l.board.rails)
