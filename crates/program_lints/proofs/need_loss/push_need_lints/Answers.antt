use Rattle.std.proofs.Common.{◌∙◌, ◌++◌, ◌<◌, length, ap, arith}
use Rattle.std.specs.Prelude.{flat_map}
use Rattle.std.specs.List.{enumerate_from}
use Rattle.facts.specs.domain.Sets.{rails_in}
use Rattle.program_lints.specs.declared.lint.ProgramLint.TheVariants as lint
use Rattle.program_lints.specs.Lints.{need_lints, only_if}
use Rattle.program_lints.proofs.Leaning.{one_more_lint}
use Rattle.program_lints.proofs.need_loss.push_need_lints.Goals as goal

pub loop-rail-preserved : goal.loop-rail-preserved
loop-rail-preserved c =
    let f = need_lints (rails_in c.args.leaning) (rails_in c.args.on) c.args.place c.args.need in
    let below = c.loop-rail-test.true in
    let same = ap length c.rails-items.ensures.rails in
    let lt : c.loop-rail.rail < length c.args.board.now.rails = omega (arith, below, same) in
    one_more_lint f c.args.board.now.rails c.loop-rail.rail c.loop-rail.lints.items
    c.push_if.new.lints.items
    (c.args.lints.now.items ++ flat_map f (enumerate_from 0 c.args.board.now.rails)) lt
    (λ r. c.in_ok-push_if.ensures
    ∙ ap (λ t. c.loop-rail.lints.items
    ++ only_if t (lint.NeedLost c.args.place c.args.need c.loop-rail.rail))
    c.is_in_both-is_there.ensures)
    c.loop-rail.invariant
