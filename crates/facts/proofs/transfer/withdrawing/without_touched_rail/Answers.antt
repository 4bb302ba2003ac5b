use Rattle.std.proofs.Common.{◌∙◌, sym, ap}
use Rattle.facts.specs.domain.Sets.{rails_in}
use Rattle.facts.specs.duties.Touching.{touched_in}
use Rattle.facts.proofs.Coded.Withdrawn.{one_dropped}
use Rattle.facts.proofs.transfer.withdrawing.without_touched_rail.Goals as goal

pub returns-then-is_touched : goal.returns-then-is_touched
returns-then-is_touched c =
    let touched = touched_in c.args.board.now c.args.pages c.args.target in
    one_dropped (rails_in c.args.good)
    (rails_in c.without.result) touched c.args.rail c.without.ensures
    (ap touched (sym c.from.ensures) ∙ sym c.is_touched.ensures ∙ c.if-is_touched.true)
