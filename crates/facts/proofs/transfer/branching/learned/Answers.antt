use Rattle.std.proofs.Common.{◌∙◌, ap}
use Rattle.simulator.specs.Moves.{passes}
use Rattle.facts.specs.domain.Rows.{Row, row_view}
use Rattle.facts.specs.transfer.Edges.{keep, learn_good}
use Rattle.facts.proofs.transfer.branching.learned.Goals as goal

pub returns : goal.returns
returns c =
    let s = c.args.source in
    let before : Row = keep (row_view c.args.row) s (λ x. passes x c.args.mask c.args.value) in
    c.learn_good.ensures ∙ ap (λ (r : Row). learn_good r s c.shows_good.result) c.keep-kept.ensures
    ∙ ap (λ seen. learn_good before s seen) c.shows_good.ensures
