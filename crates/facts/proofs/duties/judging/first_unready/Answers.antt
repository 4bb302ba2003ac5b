use Rattle.std.proofs.Common.{◌<◌, List, length, slice_index_or, ◌≡◌, ◌≤◌, subst}
use Rattle.board.specs.Boards.{Rail}
use Rattle.facts.specs.duties.Touching.{HasGoodNeeds}
use Rattle.facts.proofs.Coded.Firsts.{one_more, all_so}
use Rattle.facts.proofs.duties.judging.first_unready.Goals as goal

pub loop-index-preserved : goal.loop-index-preserved
loop-index-preserved c =
    let rails = c.rails-rail-items.ensures.rails in
    let index = c.loop-index.index in
    let rail = c.rail-item.result in
    one_more (HasGoodNeeds c.args.pages c.args.target c.args.good) c.args.board.now.rails index rail
    (subst (λ (rs : List Rail). index < length rs) rails c.loop-index-test.true)
    (subst (λ (rs : List Rail). rail ≡ slice_index_or rs index rail) rails c.rail-item.is)
    c.loop-index.invariant c.in_default.ensures

pub returns : goal.returns
returns c =
    all_so (HasGoodNeeds c.args.pages c.args.target c.args.good) c.args.board.now.rails
    c.loop-index.index
    (subst (λ (rs : List Rail). length rs ≤ c.loop-index.index) c.rails-rail-items.ensures.rails
    c.loop-index-test.false)
    c.loop-index.invariant
